-- The counts in the rows of repositories.
use Rattle.refinement.proofs.Prelude.{◌≡◌, ◌∙◌, ℕ, ℤ, pos, Bool, true, false, List, [], ◌∷◌, find, cond, Option, Some, None, bytes_eq, refl, sym, ap, subst, true≢false, is_eq-slice_cmp, bytes_eq-Decides, Repo, same_bytes, made_in, used_in, set_first, set_made, set_used}
use Rattle.tables.specs.Statements.{is_named}

-- ---- names

pub named_itself : (name : List ℕ) → same_bytes name name ≡ true
named_itself name = is_eq-slice_cmp name name ∙ (bytes_eq-Decides name name).1 refl

pub same_text : (a b : List ℕ) → same_bytes a b ≡ true → a ≡ b
same_text a b e = (bytes_eq-Decides a b).0 (sym (is_eq-slice_cmp a b) ∙ e)

pub not_named : (name other : List ℕ) → bytes_eq other name ≡ false → same_bytes name other ≡ false
not_named name other differ = at (same_bytes name other) refl
  where
    at : (v : Bool) → same_bytes name other ≡ v → same_bytes name other ≡ false
    at false is = is
    at true is = absurd (true≢false (sym ((bytes_eq-Decides other name).1 (sym (same_text name other is))) ∙ differ))

-- ---- the first row of a repository is changed, or a row is added

abbrev now_first : (Repo → Repo) → Repo → Option Repo → Repo
now_first put fresh None = fresh
now_first put fresh (Some r) = put r

module _ (put : Repo → Repo) (fresh : Repo) (name : List ℕ) (keeps : (r : Repo) → (put r).name ≡ r.name) (own : fresh.name ≡ name) where
  is_fresh : is_named name fresh ≡ true
  is_fresh = ap (λ n. same_bytes n name) own ∙ named_itself name

  found_set : (rs : List Repo) → find (is_named name) (set_first name put fresh rs) ≡ Some (now_first put fresh (find (is_named name) rs))
  found_set [] = rw is_fresh refl
  found_set (r ∷ rs) = at (is_named name r) refl (found_set rs)
    where
      at : (v : Bool) → is_named name r ≡ v → find (is_named name) (set_first name put fresh rs) ≡ Some (now_first put fresh (find (is_named name) rs))
          → find (is_named name) (cond v (put r ∷ rs) (r ∷ set_first name put fresh rs)) ≡ Some (now_first put fresh (cond v (Some r) (find (is_named name) rs)))
      at true is rest = rw (ap (λ n. same_bytes n name) (keeps r) ∙ is) refl
      at false is rest = rw is rest

  found_other : (other : List ℕ) → same_bytes name other ≡ false → (rs : List Repo) → find (is_named other) (set_first name put fresh rs) ≡ find (is_named other) rs
  found_other other differ [] = rw (ap (λ n. same_bytes n other) own ∙ differ) refl
  found_other other differ (r ∷ rs) = at (is_named name r) refl (found_other other differ rs)
    where
      at : (v : Bool) → is_named name r ≡ v → find (is_named other) (set_first name put fresh rs) ≡ find (is_named other) rs
          → find (is_named other) (cond v (put r ∷ rs) (r ∷ set_first name put fresh rs)) ≡ find (is_named other) (r ∷ rs)
      at true is rest =
          let old : same_bytes r.name other ≡ false = ap (λ n. same_bytes n other) (same_text r.name name is) ∙ differ in
          rw (ap (λ n. same_bytes n other) (keeps r) ∙ old, old) refl
      at false is rest = ap (cond (is_named other r) (Some r)) rest

  -- what the change keeps, in the rows of all repositories
  found_same : {A : Type 0} (show : Option Repo → A) → ((r : Repo) → show (Some (put r)) ≡ show (Some r)) → show (Some fresh) ≡ show None → (other : List ℕ) (rs : List Repo)
      → show (find (is_named other) (set_first name put fresh rs)) ≡ show (find (is_named other) rs)
  found_same {A} show same none other rs = at (same_bytes name other) refl
    where
      now : (o : Option Repo) → show (Some (now_first put fresh o)) ≡ show o
      now None = none
      now (Some r) = same r

      at : (v : Bool) → same_bytes name other ≡ v → show (find (is_named other) (set_first name put fresh rs)) ≡ show (find (is_named other) rs)
      at true is =
          subst (λ (n : List ℕ). show (find (is_named n) (set_first name put fresh rs)) ≡ show (find (is_named n) rs)) (same_text name other is)
          (ap show (found_set rs) ∙ now (find (is_named name) rs))
      at false is = ap show (found_other other is rs)

-- ---- the number of locks that a repository made

module _ (name : List ℕ) (made next : ℤ) where
  abbrev made_row : Repo
  made_row = record { rowid = next; name = name; made = made; used = pos 0 }

  abbrev put_made : Repo → Repo
  put_made r = record r { made = made }

  -- the count read is the count set
  pub made_set : (rs : List Repo) → made_in (find (is_named name) (set_made name made next rs)) ≡ made
  made_set rs = ap made_in (found_set put_made made_row name (λ r. refl) refl rs) ∙ at (find (is_named name) rs)
    where
      at : (o : Option Repo) → made_in (Some (now_first put_made made_row o)) ≡ made
      at None = refl
      at (Some r) = refl

  -- and no other count changes
  pub made_other : (other : List ℕ) (rs : List Repo) → same_bytes name other ≡ false → made_in (find (is_named other) (set_made name made next rs)) ≡ made_in (find (is_named other) rs)
  made_other other rs differ = ap made_in (found_other put_made made_row name (λ r. refl) refl other differ rs)

  -- and the number of bytes that a repository stores is unchanged
  pub used_kept : (other : List ℕ) (rs : List Repo) → used_in (find (is_named other) (set_made name made next rs)) ≡ used_in (find (is_named other) rs)
  used_kept other rs = found_same put_made made_row name (λ r. refl) refl used_in (λ r. refl) refl other rs

-- ---- the number of bytes that a repository stores

module _ (name : List ℕ) (used next : ℤ) where
  abbrev used_row : Repo
  used_row = record { rowid = next; name = name; made = pos 0; used = used }

  abbrev put_used : Repo → Repo
  put_used r = record r { used = used }

  -- the number read is the number set
  pub used_set : (rs : List Repo) → used_in (find (is_named name) (set_used name used next rs)) ≡ used
  used_set rs = ap used_in (found_set put_used used_row name (λ r. refl) refl rs) ∙ at (find (is_named name) rs)
    where
      at : (o : Option Repo) → used_in (Some (now_first put_used used_row o)) ≡ used
      at None = refl
      at (Some r) = refl

  -- and no other number changes
  pub used_other : (other : List ℕ) (rs : List Repo) → same_bytes name other ≡ false → used_in (find (is_named other) (set_used name used next rs)) ≡ used_in (find (is_named other) rs)
  used_other other rs differ = ap used_in (found_other put_used used_row name (λ r. refl) refl other differ rs)

  -- and the number of locks that a repository made is unchanged
  pub made_kept : (other : List ℕ) (rs : List Repo) → made_in (find (is_named other) (set_used name used next rs)) ≡ made_in (find (is_named other) rs)
  made_kept other rs = found_same put_used used_row name (λ r. refl) refl made_in (λ r. refl) refl other rs
