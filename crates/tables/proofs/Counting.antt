-- The row of a repository, as the statements set its numbers.
use Rattle.tables.proofs.Prelude.{◌≡◌, ℕ, ℤ, ◌<ℤ◌, Bool, true, false, cond, List, [], ◌∷◌, ◌++◌, find, Option, Some, None, refl, sym, ap, subst, arith, ints, AllByRecursion, int_eq, IsKeyedBy, update_where, State, Count, Repo, repo_row, repo_in, repos, Tables, tree_of, is_named, IsKept, Steps, tables_in, RepoCount, repo_count, read_count, IsCountOf, set_first, RepoTotal, repo_total, read_total, IsTotalOf, keys_rise}
use Rattle.tables.specs.declared.uploads.Total.{Total}
use Rattle.tables.specs.Rows.{tables_under}
use Rattle.tables.specs.Statements.{with_repo, with_made_at, with_used_row, with_used_at}
use Rattle.tables.specs.Steps.{with_made}
use Rattle.tables.specs.Staging.{with_used}
use Rattle.tables.proofs.Calls.{same_steps}
use Rattle.tables.proofs.Parts.{typed_at}

abbrev key : Repo → ℤ
key r = r.rowid

differ : (a b : ℤ) → b <ℤ a → int_eq a b ≡ false
differ a b h = grind (arith, ints)

differ_up : (a b : ℤ) → a <ℤ b → int_eq a b ≡ false
differ_up a b h = grind (arith, ints)

itself : (a : ℤ) → int_eq a a ≡ true
itself a = grind (arith, ints)

found_above : (id : ℤ) (p : Repo → Bool) (rs : List Repo) (r : Repo) → AllByRecursion (λ x. id <ℤ x.rowid) rs → find p rs ≡ Some r → id <ℤ r.rowid
found_above id p [] r h e = absurd (let a : None ≡ Some r = e in cc)
found_above id p (x ∷ xs) r h e = go (p x) (found_above id p xs r h.1) e
  where
    go : (b : Bool) → (find p xs ≡ Some r → id <ℤ r.rowid) → cond b (Some x) (find p xs) ≡ Some r → id <ℤ r.rowid
    go true rest e = let same : x ≡ r = (let a : Some x ≡ Some r = e in cc) in subst (λ (y : Repo). id <ℤ y.rowid) same h.0
    go false rest e = rest e

-- ---- one row is set, whichever number it is

module _ (name : List ℕ) (change : Repo → Repo) (new : Repo) where
  none_named : (rs : List Repo) → find (is_named name) rs ≡ None → rs ++ new ∷ [] ≡ set_first name change new rs
  none_named [] h = refl
  none_named (r ∷ rs) h = go (is_named name r) (none_named rs) h
    where
      go : (b : Bool) → (find (is_named name) rs ≡ None → rs ++ new ∷ [] ≡ set_first name change new rs) → cond b (Some r) (find (is_named name) rs) ≡ None
          → r ∷ (rs ++ new ∷ []) ≡ cond b (change r ∷ rs) (r ∷ set_first name change new rs)
      go true rest h = absurd (let e : Some r ≡ None = h in cc)
      go false rest h = ap (λ l. r ∷ l) (rest h)

  -- an update leaves the rows above a rowid unchanged
  above_left : (id : ℤ) (rs : List Repo) → AllByRecursion (λ r. id <ℤ r.rowid) rs → update_where (λ r. int_eq r.rowid id) change rs ≡ rs
  above_left id [] h = refl
  above_left id (r ∷ rs) h = let apart : int_eq r.rowid id ≡ false = differ r.rowid id h.0 in rw apart (ap (λ l. r ∷ l) (above_left id rs h.1))

  named_at : (rs : List Repo) (r : Repo) → IsKeyedBy key rs → find (is_named name) rs ≡ Some r → update_where (λ x. int_eq x.rowid r.rowid) change rs ≡ set_first name change new rs
  named_at [] r up h = absurd (let a : None ≡ Some r = h in cc)
  named_at (x ∷ xs) r up h = go (is_named name x) (named_at xs r up.1) h
    where
      go : (b : Bool) → (find (is_named name) xs ≡ Some r → update_where (λ y. int_eq y.rowid r.rowid) change xs ≡ set_first name change new xs) → cond b (Some x) (find (is_named name) xs) ≡ Some r
          → update_where (λ y. int_eq y.rowid r.rowid) change (x ∷ xs) ≡ cond b (change x ∷ xs) (x ∷ set_first name change new xs)
      go true rest e =
          let same : x ≡ r = (let a : Some x ≡ Some r = e in cc) in
          let id : x.rowid ≡ r.rowid = ap key same in
          let here : int_eq x.rowid r.rowid ≡ true = rw (← id) (itself x.rowid) in
          rw here (ap (λ l. change x ∷ l) (subst (λ k. update_where (λ y. int_eq y.rowid k) change xs ≡ xs) id (above_left x.rowid xs up.0)))
      go false rest e =
          let apart : int_eq x.rowid r.rowid ≡ false = differ_up x.rowid r.rowid (found_above x.rowid (is_named name) xs r up.0 e) in
          rw apart (ap (λ l. x ∷ l) (rest e))

-- the rowids of the repositories rise
rises : (s : State) → IsKept s.now → IsKeyedBy key (tables_in s).repos
unfolding tables_under
rises s kept = keys_rise key repo_row repo_in (λ _. refl) (λ _. refl) (s.now.trees (tree_of s.now.schema repos)) (typed_at repos s.now.schema s.now.trees kept.typed)

-- ---- the number of locks made

count_new : (name : List ℕ) (n : ℤ) (t : Tables) → find (is_named name) t.repos ≡ None → with_repo name n t ≡ with_made name n t
unfolding with_repo with_made
count_new name n t none = ap (λ rs. record t { repos = rs }) (none_named name _ _ t.repos none)

count_at : (name : List ℕ) (n : ℤ) (t : Tables) (r : Repo) → IsKeyedBy key t.repos → find (is_named name) t.repos ≡ Some r → with_made_at r.rowid n t ≡ with_made name n t
unfolding with_made_at with_made
count_at name n t r up found = ap (λ rs. record t { repos = rs }) (named_at name _ _ t.repos r up found)

no_count : (o : Option Repo) → IsCountOf None o → o ≡ None
no_count None h = refl
no_count (Some r) h = absurd (let e : None ≡ Some (repo_count r) = h in cc)

a_count : (c : Count) (o : Option Repo) → IsCountOf (Some c) o → (r : Repo) × (o ≡ Some r) × (r.rowid ≡ c.rowid)
a_count c None h = absurd (let e : Some (read_count c) ≡ None = h in cc)
a_count c (Some r) h = (r, refl, let e : read_count c ≡ repo_count r = (let e : Some (read_count c) ≡ Some (repo_count r) = h in cc) in sym (ap (λ (x : RepoCount). x.rowid) e))

module _ (old new : State) (name : List ℕ) (n : ℤ) (count : Option Count) (counts : IsCountOf count (find (is_named name) (tables_in old).repos)) where
  -- a repository without a row gets one
  pub counted_new : count ≡ None → Steps (with_repo name n) old new → Steps (with_made name n) old new
  counted_new none s = same_steps (with_repo name n) (with_made name n) old new (count_new name n (tables_in old) (no_count _ (subst (λ c. IsCountOf c (find (is_named name) (tables_in old).repos)) none counts))) s

  -- the number in the row that was found is set
  pub counted_at : (c : Count) → count ≡ Some c → IsKept old.now → Steps (with_made_at c.rowid n) old new → Steps (with_made name n) old new
  counted_at c some kept s =
      let found = a_count c _ (subst (λ o. IsCountOf o (find (is_named name) (tables_in old).repos)) some counts) in
      same_steps (with_made_at c.rowid n) (with_made name n) old new
      (subst (λ id. with_made_at id n (tables_in old) ≡ with_made name n (tables_in old)) found.2 (count_at name n (tables_in old) found.0 (rises old kept) found.1)) s

-- ---- the number of bytes stored

used_new : (name : List ℕ) (n : ℤ) (t : Tables) → find (is_named name) t.repos ≡ None → with_used_row name n t ≡ with_used name n t
unfolding with_used_row with_used
used_new name n t none = ap (λ rs. record t { repos = rs }) (none_named name _ _ t.repos none)

used_at : (name : List ℕ) (n : ℤ) (t : Tables) (r : Repo) → IsKeyedBy key t.repos → find (is_named name) t.repos ≡ Some r → with_used_at r.rowid n t ≡ with_used name n t
unfolding with_used_at with_used
used_at name n t r up found = ap (λ rs. record t { repos = rs }) (named_at name _ _ t.repos r up found)

no_total : (o : Option Repo) → IsTotalOf None o → o ≡ None
no_total None h = refl
no_total (Some r) h = absurd (let e : None ≡ Some (repo_total r) = h in cc)

a_total : (c : Total) (o : Option Repo) → IsTotalOf (Some c) o → (r : Repo) × (o ≡ Some r) × (r.rowid ≡ c.rowid)
a_total c None h = absurd (let e : Some (read_total c) ≡ None = h in cc)
a_total c (Some r) h = (r, refl, let e : read_total c ≡ repo_total r = (let e : Some (read_total c) ≡ Some (repo_total r) = h in cc) in sym (ap (λ (x : RepoTotal). x.rowid) e))

module _ (old new : State) (name : List ℕ) (n : ℤ) (total : Option Total) (totals : IsTotalOf total (find (is_named name) (tables_in old).repos)) where
  -- a repository without a row gets one
  pub total_new : total ≡ None → Steps (with_used_row name n) old new → Steps (with_used name n) old new
  total_new none s = same_steps (with_used_row name n) (with_used name n) old new (used_new name n (tables_in old) (no_total _ (subst (λ c. IsTotalOf c (find (is_named name) (tables_in old).repos)) none totals))) s

  -- the number in the row that was found is set
  pub total_at : (c : Total) → total ≡ Some c → IsKept old.now → Steps (with_used_at c.rowid n) old new → Steps (with_used name n) old new
  total_at c some kept s =
      let found = a_total c _ (subst (λ o. IsTotalOf o (find (is_named name) (tables_in old).repos)) some totals) in
      same_steps (with_used_at c.rowid n) (with_used name n) old new
      (subst (λ id. with_used_at id n (tables_in old) ≡ with_used name n (tables_in old)) found.2 (used_at name n (tables_in old) found.0 (rises old kept) found.1)) s
