-- An object that is removed for good: what the tables represent then.
use Rattle.refinement.proofs.Prelude.{◌≡◌, ◌∙◌, ℕ, ◌+◌, ◌≤◌, ℤ, pos, Bool, true, false, not, ◌&&◌, List, [], ◌∷◌, map, filter, find, cond, length, Option, Some, None, option_map, is_some, bytes_eq, IsTrue, refl, sym, ap, subst, AllPairs, IsPermutation, arith, ints, AllByRecursion, int_eq, true≢false, AllPairs-filter, IsPermutation-filter, filter-map, length-map, length_permutation, bytes_eq-Decides, is_eq-slice_cmp, next_key, all_weaker, all_kept, all_of, World, IsWorld, Object, object_named, total, Tables, same_bytes, is_upload, is_complete, is_staged, is_staged_in, is_object, used_in, used_of, set_used, bytes_of, object_in, DiffersInName, DiffersInRepo, RepresentObjects, Represents, in_found, found_passes, none_where, both_true}
use Rattle.std.specs.Prelude.{◌-ℤ◌}
use Rattle.std.specs.Ordering.{is_gt, nat_cmp, ordering_then}
use Rattle.std.specs.Cmp.{IsTotalOrder}
use Rattle.std.specs.Cmp.Lexicographic.{slice_cmp}
use Rattle.std.specs.declared.cmp.Ordering.{Ordering}
use Rattle.std.specs.declared.cmp.Ordering.TheVariants.{Less, Equal, Greater}
use Rattle.std.proofs.lemmas.Cmp.{on_total, then_total, int_cmp_total, nat_list_cmp_total}
use Rattle.std.proofs.lemmas.List.Sorted.{IsPermutation-map, IsPermutation-sym, IsPermutation-trans}
use Rattle.sqlite_keyed.proofs.ListLemmas.{all-filter, ascending-map, ascending_weaker, map-map}
use Rattle.sqlite_keyed.proofs.SortLemmas.{IsPermutation-sort_by}
use Rattle.model.specs.RepoState.{retired_of}
use Rattle.refinement.proofs.Orders.{retired_in_order}
use Rattle.refinement.proofs.Sorting.{NotAfter, sorted_rises}
use Rattle.sqlite_keyed.proofs.KeyedLemmas.{IsKeyedBy-delete_where}
use Rattle.names.specs.Texts.{is_hex_64, is_repo}
use Rattle.model.specs.World.{Retired, DiffersInRetired, has_name, is_retired, without_object}
use Rattle.model.proofs.Keeping.{keeps_without_object}
use Rattle.model.specs.Reading.{or_default}
use Rattle.model.proofs.Totals.{total_without}
use Rattle.tables.specs.Rows as row
use Rattle.tables.specs.Statements.{is_named, is_retired_as, is_retired_in, by_oid, oid_cmp, without_row, without_chunks, with_retired}
use Rattle.tables.specs.Staging.{staged_with, with_used, without_upload, without_found, without_staged}
use Rattle.refinement.proofs.Begun.{NoneIn, none_left_in}
use Rattle.refinement.proofs.Completing.{found_staged}
use Rattle.tables.specs.Retiring as tables
use Rattle.refinement.specs.Representation.{AreUnretired, retired_kept, retired_row}
use Rattle.refinement.proofs.Changes.{one_item_more}
use Rattle.refinement.proofs.Counts.{named_itself, same_text, used_set, used_other, made_kept}
use Rattle.refinement.proofs.Found.{Excludes, pairs_head, none_passes, same_found}
use Rattle.refinement.proofs.Kept.{object_found, object_known, found_size, found_among}
use Rattle.refinement.proofs.Tokens.{some_alike}
use Rattle.refinement.proofs.Lookups.{find_alike, same_is}
use Rattle.refinement.proofs.Pieces.{own_number}
use Rattle.refinement.proofs.Uploads.{found_itself, map_alike, same_object}
use Rattle.refinement.proofs.Withdrawn.{left, rest, alone, others, sizes_left, numbered_left, owned_left, filters_meet, each_left, not_is}

-- ---- the one element that passes

-- at most one element of a list passes, if no two related ones do
at_most_one : {A : Type 0} (p : A → Bool) (R : A → A → Type 0) (xs : List A) → Excludes p R → AllPairs R xs → length (filter p xs) ≤ 1
at_most_one {A} p R xs excludes pairs = go (filter p xs) (AllPairs-filter R p xs pairs) (each_left (λ x. p x ≡ true) p xs (all_of (λ x. p x ≡ true → p x ≡ true) (λ x h. h) xs))
  where
    go : (ys : List A) → AllPairs R ys → AllByRecursion (λ y. p y ≡ true) ys → length ys ≤ 1
    go [] rs all = omega arith
    go (y ∷ []) rs all = omega arith
    go (y ∷ z ∷ ys) rs all = absurd (excludes y z (pairs_head R y (z ∷ ys) rs 0 z (omega arith)) all.0 all.1.0)

-- the first that passes is the first of those that do
first_kept : {A : Type 0} (p : A → Bool) (xs : List A) (x : A) → find p xs ≡ Some x → (more : List A) × (filter p xs ≡ x ∷ more)
first_kept p [] x e = absurd (let a : None ≡ Some x = e in cc)
first_kept {A} p (y ∷ ys) x e = go (p y) (first_kept p ys x) e
  where
    go : (v : Bool) → (find p ys ≡ Some x → (more : List A) × (filter p ys ≡ x ∷ more)) → cond v (Some y) (find p ys) ≡ Some x → (more : List A) × (cond v (y ∷ filter p ys) (filter p ys) ≡ x ∷ more)
    go true rest e = (filter p ys, let same : y ≡ x = cc in ap (λ z. z ∷ filter p ys) same)
    go false rest e = rest e

-- if at most one passes, each that does is the first
only_one : {A : Type 0} (p : A → Bool) (xs : List A) (x : A) → find p xs ≡ Some x → length (filter p xs) ≤ 1 → AllByRecursion (λ y. p y ≡ true → y ≡ x) xs
only_one {A} p xs x e few =
    let it = first_kept p xs x e in
    all_kept (λ y. y ≡ x) p xs (subst (AllByRecursion (λ y. y ≡ x)) (sym it.1) (alone_in it.0 (subst (λ (ys : List A). length ys ≤ 1) it.1 few)))
  where
    alone_in : (more : List A) → length (x ∷ more) ≤ 1 → AllByRecursion (λ y. y ≡ x) (x ∷ more)
    alone_in [] h = (refl, tt)
    alone_in (y ∷ ys) h = absurd (omega (arith, h))

-- tests that agree on a list keep the same of it
kept_alike : {A : Type 0} (p q : A → Bool) (xs : List A) → AllByRecursion (λ x. p x ≡ q x) xs → filter p xs ≡ filter q xs
kept_alike p q [] all = refl
kept_alike p q (x ∷ xs) all = rw all.0 (ap (λ ys. cond (q x) (x ∷ ys) ys) (kept_alike p q xs all.1))

-- ---- without a complete upload

module _ (us : List row.Upload) (cs : List row.Chunk) (objects : List Object) (s : row.Upload) (r : RepresentObjects us cs objects) (there : find (is_upload s.id) us ≡ Some s) (repo name : List ℕ)
    (found : find (λ u. has_name repo name (object_in cs u)) (filter is_complete us) ≡ Some s) (differ : AllPairs DiffersInName objects) where
  abbrev pub named : Object → Bool
  named = has_name repo name

  excludes : Excludes named DiffersInName
  excludes x y apart a b =
      let p = both_true (bytes_eq x.repo repo) (bytes_eq x.name name) a in let q = both_true (bytes_eq y.repo repo) (bytes_eq y.name name) b in
      apart (same_is x.repo repo p.0 ∙ sym (same_is y.repo repo q.0)) (same_is x.name name p.1 ∙ sym (same_is y.name name q.1))

  abbrev pub complete : List row.Upload
  complete = filter is_complete us

  -- of the complete uploads only this one has the name
  only_named : AllByRecursion (λ u. named (object_in cs u) ≡ true → u ≡ s) complete
  only_named =
      let one : length (filter named objects) ≤ 1 = at_most_one named DiffersInName objects excludes differ in
      let same : length (filter named (map (object_in cs) complete)) ≡ length (filter named objects) = sym (length_permutation _ _ (IsPermutation-filter named (map (object_in cs) complete) objects r.complete)) in
      let mapped : length (filter (λ u. named (object_in cs u)) complete) ≡ length (filter named (map (object_in cs) complete)) =
      sym (length-map (filter (λ u. named (object_in cs u)) complete) (object_in cs)) ∙ sym (ap length (filter-map named (object_in cs) complete)) in
      only_one (λ u. named (object_in cs u)) complete s found (omega (arith, one, same, mapped))

  by_id : AllByRecursion (λ u. not (is_upload s.id u) ≡ not (named (object_in cs u))) complete
  by_id = agree complete (all-filter (λ u. is_upload s.id u ≡ true → u ≡ s) is_complete us (alone us cs objects s r there)) only_named
    where
      own : named (object_in cs s) ≡ true
      own = found_passes (λ u. named (object_in cs u)) complete s found

      at : (u : row.Upload) (v w : Bool) → is_upload s.id u ≡ v → named (object_in cs u) ≡ w → (is_upload s.id u ≡ true → u ≡ s) → (named (object_in cs u) ≡ true → u ≡ s) → not v ≡ not w
      at u true true e f a b = refl
      at u true false e f a b = absurd (true≢false (sym own ∙ ap (λ (v : row.Upload). named (object_in cs v)) (sym (a e)) ∙ f))
      at u false true e f a b = absurd (true≢false (sym (ap (λ (v : row.Upload). int_eq v.id s.id) (b f) ∙ own_number s.id) ∙ e))
      at u false false e f a b = refl

      agree : (vs : List row.Upload) → AllByRecursion (λ u. is_upload s.id u ≡ true → u ≡ s) vs → AllByRecursion (λ u. named (object_in cs u) ≡ true → u ≡ s) vs → AllByRecursion (λ u. not (is_upload s.id u) ≡ not (named (object_in cs u))) vs
      agree [] a b = tt
      agree (u ∷ vs) a b = (at u (is_upload s.id u) (named (object_in cs u)) refl refl a.0 b.0, agree vs a.1 b.1)

  pub objects_retired : RepresentObjects (left us cs objects s r there) (rest us cs objects s r there) (filter (λ o. not (named o)) objects)
  objects_retired =
      let fewer = rest us cs objects s r there in
      let is : map (object_in fewer) (filter is_complete (left us cs objects s r there)) ≡ filter (λ o. not (named o)) (map (object_in cs) complete) =
      ap (map (object_in fewer)) (filters_meet is_complete (λ u. not (is_upload s.id u)) us)
      ∙ map_alike (λ u. not (is_upload s.id u)) (object_in fewer) (object_in cs) complete
      (all_of (λ (u : row.Upload). not (is_upload s.id u) ≡ true → object_in fewer u ≡ object_in cs u) (λ u stays. same_object cs fewer u (others us cs objects s r there u.id (not_is (is_upload s.id u) stays))) complete)
      ∙ ap (map (object_in cs)) (kept_alike (λ u. not (is_upload s.id u)) (λ u. not (named (object_in cs u))) complete by_id)
      ∙ sym (filter-map (λ o. not (named o)) (object_in cs) complete) in
      record {
        complete = subst (λ (os : List Object). IsPermutation os (filter (λ o. not (named o)) objects)) (sym is) (IsPermutation-filter (λ o. not (named o)) (map (object_in cs) complete) objects r.complete);
        sizes = sizes_left us cs objects s r there;
        numbered = numbered_left us cs objects s r there;
        owned = owned_left us cs objects s r there;
        staged = subst (AllPairs DiffersInRepo) (filters_meet (λ u. not (is_upload s.id u)) is_staged us) (AllPairs-filter DiffersInRepo (λ u. not (is_upload s.id u)) (filter is_staged us) r.staged);
        rise = IsKeyedBy-delete_where (λ (u : row.Upload). u.id) (is_upload s.id) us r.rise;
      }

-- ---- the tables

less_of : (a b c : ℕ) (x y : ℤ) → x ≡ pos c → y ≡ pos b → a + b ≡ c → x -ℤ y ≡ pos a
less_of a b c x y p q e = omega (arith, ints, p, q, e)

-- no staged upload of another repository has the name that is retired now
still_unretired : (world : World) (repo name : List ℕ) (us : List row.Upload) → AllByRecursion (λ u. is_staged_in repo u ≡ false) us → AreUnretired world us → AreUnretired (without_object repo name world) us
still_unretired world repo name [] none all = tt
still_unretired world repo name (u ∷ us) none all = (λ is. other is (all.0 is), still_unretired world repo name us none.1 all.1)
  where
    apart : is_staged u ≡ true → bytes_eq repo u.repo ≡ false
    apart is = go (bytes_eq repo u.repo) refl
      where
        go : (v : Bool) → bytes_eq repo u.repo ≡ v → bytes_eq repo u.repo ≡ false
        go false e = e
        go true e = absurd (true≢false (sym (rw (ap (λ (n : List ℕ). same_bytes n repo) (sym ((bytes_eq-Decides repo u.repo).0 e)) ∙ named_itself repo) is) ∙ none.0))

    other : is_staged u ≡ true → is_retired u.repo u.oid world ≡ false → is_retired u.repo u.oid (without_object repo name world) ≡ false
    other is was = rw (apart is) was

module _ (t : Tables) (world : World) (repo name : List ℕ) (u : row.Upload) (r : Represents t world) (w : IsWorld world) (there : find (is_object repo name) t.uploads ≡ Some u) (none : find (is_staged_in repo) t.uploads ≡ None) where
  its : find (is_upload u.id) t.uploads ≡ Some u
  its = found_itself t.uploads u r.objects.rise (in_found (is_object repo name) t.uploads u there)

  among_complete : find (λ v. has_name repo name (object_in t.chunks v)) (filter is_complete t.uploads) ≡ Some u
  among_complete = found_among t repo name ∙ there

  whole : u.size ≡ pos (length (bytes_of u.id t.chunks))
  whole = found_size t world repo name u r there

  same_some : {A : Type 0} {x y : A} → Some x ≡ Some y → x ≡ y
  same_some e = cc

  size_is : (o : Object) → object_named repo name world ≡ Some o → length (bytes_of u.id t.chunks) ≡ length o.bytes
  size_is o e = ap (λ (x : Object). length x.bytes) (same_some (ap (option_map (object_in t.chunks)) (sym there) ∙ object_found t world repo name r w ∙ e))

  removed_total : (own : List ℕ) → own ≡ repo → total own (without_object repo name world) + length (bytes_of u.id t.chunks) ≡ total own world
  removed_total own is = at (object_named repo name world) refl
    where
      at : (o : Option Object) → object_named repo name world ≡ o → total own (without_object repo name world) + length (bytes_of u.id t.chunks) ≡ total own world
      at None e = absurd (let a : Some (object_in t.chunks u) ≡ None = ap (option_map (object_in t.chunks)) (sym there) ∙ object_found t world repo name r w ∙ e in cc)
      at (Some o) e =
          let it = total_without world repo name own w true ((bytes_eq-Decides repo own).1 (sym is)) in
          let size = size_is o e in
          let found = ap (λ (x : Option Object). or_default (option_map (λ (p : Object). length p.bytes) x) 0) e in
          omega (arith, it, size, found)

  used_less : (other : List ℕ) → used_in (find (is_named other) (set_used repo (used_of repo t -ℤ u.size) (next_key (λ x. x.rowid) t.repos) t.repos)) ≡ pos (total other (without_object repo name world))
  used_less other = at (same_bytes repo other) refl
    where
      at : (v : Bool) → same_bytes repo other ≡ v → used_in (find (is_named other) (set_used repo (used_of repo t -ℤ u.size) (next_key (λ x. x.rowid) t.repos) t.repos)) ≡ pos (total other (without_object repo name world))
      at true e =
          let same = same_text repo other e in
          ap (λ n. used_in (find (is_named n) (set_used repo (used_of repo t -ℤ u.size) (next_key (λ x. x.rowid) t.repos) t.repos))) (sym same)
          ∙ used_set repo (used_of repo t -ℤ u.size) (next_key (λ x. x.rowid) t.repos) t.repos
          ∙ less_of (total repo (without_object repo name world)) (length (bytes_of u.id t.chunks)) (total repo world) (used_of repo t) u.size (r.used repo) whole (removed_total repo refl)
          ∙ ap (λ n. pos (total n (without_object repo name world))) same
      at false e =
          used_other repo (used_of repo t -ℤ u.size) (next_key (λ x. x.rowid) t.repos) other t.repos e ∙ r.used other
          ∙ ap pos (let it = total_without world repo name other w false (sym (is_eq-slice_cmp repo other) ∙ e) in omega (arith, it))

  pub retire_represented : Represents (tables.without_object repo name u t) (without_object repo name world)
  unfolding tables.without_object with_retired with_used without_upload without_row without_chunks
  retire_represented = record {
    meta = r.meta;
    locks = r.locks;
    made = λ other. made_kept repo (used_of repo t -ℤ u.size) (next_key (λ x. x.rowid) t.repos) other t.repos ∙ r.made other;
    used = used_less;
    tokens = r.tokens;
    objects = objects_retired t.uploads t.chunks world.objects u r.objects its repo name among_complete w.names;
    retired = one_item_more retired_kept retired_row t.retired world.retired _ (record { repo = repo; name = name }) r.retired refl;
    unretired = still_unretired world repo name _ (all-filter (λ v. is_staged_in repo v ≡ false) (λ v. not (is_upload u.id v)) t.uploads (none_passes (is_staged_in repo) t.uploads none))
        (all-filter (λ v. is_staged v ≡ true → is_retired v.repo v.oid world ≡ false) (λ v. not (is_upload u.id v)) t.uploads r.unretired);
  }

-- ---- the staged upload of the repository

-- no staged upload of the repository is found
none_found : (repo : List ℕ) (us : List row.Upload) → NoneIn repo us → find (is_staged_in repo) us ≡ None
none_found repo us none =
    none_where (is_staged_in repo) us (all_weaker (λ u. is_staged u ≡ true → u.repo ≡ repo → ⊥) (λ u. is_staged_in repo u ≡ false) (λ u never. at u never (is_staged_in repo u) refl) us none)
  where
    at : (u : row.Upload) → (is_staged u ≡ true → u.repo ≡ repo → ⊥) → (v : Bool) → is_staged_in repo u ≡ v → is_staged_in repo u ≡ false
    at u never false e = e
    at u never true e = let both = both_true (same_bytes u.repo repo) (is_staged u) e in absurd (never both.1 (same_text u.repo repo both.0))

-- nor after the one that the repository had was removed
pub staged_in_gone : (t : Tables) (world : World) (repo : List ℕ) (s : row.Upload) → Represents t world → find (is_staged_in repo) t.uploads ≡ Some s → find (is_staged_in repo) (without_staged s.id t).uploads ≡ None
unfolding without_staged without_upload without_row without_chunks
staged_in_gone t world repo s r e =
    let staged = (both_true _ _ (found_passes (is_staged_in repo) t.uploads s e)).1 in
    let there : staged_with s.id t ≡ Some s = found_staged t.uploads s.id s (found_itself t.uploads s r.objects.rise (in_found (is_staged_in repo) t.uploads s e)) staged in
    ap (λ o. find (is_staged_in repo) (without_found o t).uploads) there ∙ none_found repo _ (none_left_in repo t.uploads s r.objects.staged e)

-- ---- the rows of retired names

-- a row with the name exists exactly if the world has retired it
pub retired_known : (t : Tables) (world : World) (repo name : List ℕ) → Represents t world → IsWorld world → is_some (find (is_retired_as repo name) t.retired) ≡ is_retired repo name world
retired_known t world repo name r w =
    let is : row.Retired → Bool = is_retired_as repo name in
    let own : Excludes (λ (x : Retired). is (retired_row x)) DiffersInRetired = λ x y differ a b.
    let p = both_true _ _ a in let q = both_true _ _ b in
    differ (same_text x.repo repo p.0 ∙ sym (same_text y.repo repo q.0)) (same_text x.name name p.1 ∙ sym (same_text y.name name q.1)) in
    let found = same_found retired_kept retired_row is DiffersInRetired t.retired world.retired r.retired own w.once in
    some_alike retired_kept retired_row (find is t.retired) (find (λ x. is (retired_row x)) world.retired) found
    ∙ ap is_some (find_alike (λ (x : Retired). is (retired_row x)) (λ x. bytes_eq x.repo repo && bytes_eq x.name name) world.retired (λ x. rw (is_eq-slice_cmp x.repo repo, is_eq-slice_cmp x.name name) refl))

-- the object is removed, or the store has none
pub would_retire : (t : Tables) (world : World) (repo name : List ℕ) → Represents t world → IsWorld world → IsTrue (is_repo repo) → IsTrue (is_hex_64 name) → is_retired repo name world ≡ false → find (is_staged_in repo) t.uploads ≡ None → is_some (object_named repo name world) ≡ true
    → IsWorld (without_object repo name world) × Represents (tables.after_retire repo name t) (without_object repo name world)
unfolding tables.after_retire
would_retire t world repo name r w in_repo in_name unretired none there = (keeps_without_object repo name world in_repo in_name unretired w, at (find (is_object repo name) t.uploads) refl)
  where
    at : (o : Option row.Upload) → find (is_object repo name) t.uploads ≡ o → Represents (tables.without_found_object repo name o t) (without_object repo name world)
    at None e = absurd (let a : false ≡ true = sym (ap is_some e) ∙ object_known t world repo name r w ∙ there in cc)
    at (Some u) e = retire_represented t world repo name u r w e none

oid_total : IsTotalOrder oid_cmp
oid_total = then_total (on_total (λ (r : row.Retired). r.oid) nat_list_cmp_total) (on_total (λ (r : row.Retired). r.rowid) int_cmp_total)

first_of_two : (a b : Ordering) → is_gt (ordering_then a b) ≡ false → is_gt a ≡ false
first_of_two Less b e = refl
first_of_two Equal b e = refl
first_of_two Greater b e = e

-- the rows of a repository's retired names, in order, are those of the world
pub names_retired : (t : Tables) (world : World) (repo : List ℕ) → Represents t world → IsWorld world → map (λ (r : row.Retired). r.oid) (by_oid (filter (is_retired_in repo) t.retired)) ≡ retired_of repo world
names_retired t world repo r w =
    let own : row.Retired → Bool = is_retired_in repo in
    let name : row.Retired → List ℕ = λ x. x.oid in
    let rows = filter own t.retired in
    let kept : map name (map retired_kept rows) ≡ map name rows = map-map name retired_kept rows in
    let world_names = map (λ (x : Retired). x.name) (filter (λ x. bytes_eq x.repo repo) world.retired) in
    let wanted : map name (filter own (map retired_row world.retired)) ≡ world_names =
    ap (map name) (filter-map own retired_row world.retired) ∙ map-map name retired_row (filter (λ x. own (retired_row x)) world.retired)
    ∙ ap (map (λ (x : Retired). x.name)) (kept_alike (λ x. own (retired_row x)) (λ x. bytes_eq x.repo repo) world.retired (all_of (λ (x : Retired). own (retired_row x) ≡ bytes_eq x.repo repo) (λ x. is_eq-slice_cmp x.repo repo) world.retired)) in
    let same : IsPermutation (map name rows) world_names =
    subst (IsPermutation (map name rows)) wanted
    (subst (λ (ns : List (List ℕ)). IsPermutation ns (map name (filter own (map retired_row world.retired)))) (ap (map name) (filter-map own retired_kept t.retired) ∙ kept)
    (IsPermutation-map name (filter own (map retired_kept t.retired)) (filter own (map retired_row world.retired)) (IsPermutation-filter own (map retired_kept t.retired) (map retired_row world.retired) r.retired))) in
    let sorted = IsPermutation-map name (by_oid rows) rows (IsPermutation-sort_by oid_cmp oid_total rows) in
    retired_in_order world repo (map name (by_oid rows)) w (IsPermutation-sym (map name (by_oid rows)) world_names (IsPermutation-trans (map name (by_oid rows)) (map name rows) world_names sorted same))
    (ascending-map (NotAfter (slice_cmp nat_cmp) nat_list_cmp_total) name (by_oid rows)
    (ascending_weaker (NotAfter oid_cmp oid_total) (λ a b. NotAfter (slice_cmp nat_cmp) nat_list_cmp_total (name a) (name b)) (λ a b. first_of_two (slice_cmp nat_cmp a.oid b.oid) _) (by_oid rows) (sorted_rises oid_cmp oid_total rows)))
