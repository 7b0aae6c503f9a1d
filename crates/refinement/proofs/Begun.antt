-- An upload that is begun: the tables represent the same world, and the upload is staged.
use Rattle.refinement.proofs.Prelude.{◌≡◌, ◌∙◌, ℕ, ◌≤◌, ◌<ℤ◌, ℤ, Bool, true, false, not, ◌&&◌, List, [], ◌∷◌, ◌++◌, map, filter, find, cond, length, Option, Some, None, IfSome, is_some, IsTrue, refl, sym, ap, subst, AllPairs, IsPermutation, arith, AllByRecursion, int_eq, true≢false, filter-append, All-from_recursion, find-append, delete_where, all_weaker, all-append, all-filter, all_kept, ascending-append, filter_none, largest_object, World, Object, find_filter, none_where, Tables, same_bytes, is_upload, is_complete, is_staged, is_staged_in, is_of, IsAbove, chunk_kept, number_cmp, bytes_of, HasPieces, object_in, HasSize, DiffersInRepo, RepresentObjects, Represents, staged_row, IsStaged}
use Rattle.std.specs.Option.{option_or}
use Rattle.std.proofs.lemmas.List.{append-nil}
use Rattle.std.proofs.lemmas.List.Quantifiers.{all_pairs_push}
use Rattle.sqlite_keyed.specs.Lists.{sort_by}
use Rattle.model.specs.World.{is_retired}
use Rattle.tables.specs.Rows as row
use Rattle.tables.specs.Statements.{with_upload, without_row, without_chunks}
use Rattle.tables.specs.Staging.{without_upload, without_found, without_staged_in, after_begin}
use Rattle.refinement.proofs.Counts.{named_itself, same_text}
use Rattle.refinement.proofs.Found.{IsOnly, only_first, none_passes}
use Rattle.refinement.proofs.Lookups.{find_alike}
use Rattle.refinement.proofs.Pieces.{same_number, own_number, bytes_are}
use Rattle.refinement.proofs.Uploads.{apart_below}
use Rattle.refinement.proofs.Withdrawn.{each_left, not_is, staged_in_withdrawn}

-- ---- the repository has no staged upload

-- no staged upload is the repository's
abbrev pub NoneIn : List ℕ → List row.Upload → Type 0
NoneIn repo = AllByRecursion (λ u. is_staged u ≡ true → u.repo ≡ repo → ⊥)

staged_there : (repo : List ℕ) (u : row.Upload) → is_staged u ≡ true → u.repo ≡ repo → is_staged_in repo u ≡ true
staged_there repo u staged own = rw (ap (λ (n : List ℕ). same_bytes n repo) own ∙ named_itself repo) staged

none_in : (repo : List ℕ) (us : List row.Upload) → find (is_staged_in repo) us ≡ None → NoneIn repo us
none_in repo us e =
    all_weaker (λ u. is_staged_in repo u ≡ false) (λ u. is_staged u ≡ true → u.repo ≡ repo → ⊥)
    (λ u fails staged own. absurd (true≢false (sym (staged_there repo u staged own) ∙ fails))) us (none_passes (is_staged_in repo) us e)

pub both_meet : (a b : Bool) → (a && b) ≡ (b && a)
both_meet true true = refl
both_meet true false = refl
both_meet false true = refl
both_meet false false = refl

-- the staged upload of a repository is its only one
only_staged : (repo : List ℕ) (us : List row.Upload) (s : row.Upload) → AllPairs DiffersInRepo (filter is_staged us) → find (is_staged_in repo) us ≡ Some s
    → AllByRecursion (λ u. is_staged u ≡ true → u.repo ≡ repo → u ≡ s) us
only_staged repo us s apart e =
    let own : row.Upload → Bool = λ u. same_bytes u.repo repo in
    let found : find own (filter is_staged us) ≡ Some s =
    find_filter own is_staged us ∙ find_alike (λ u. is_staged u && own u) (is_staged_in repo) us (λ u. both_meet (is_staged u) (own u)) ∙ e in
    let only = only_first own DiffersInRepo (filter is_staged us) (λ x y differ a b. differ (same_name x a ∙ sym (same_name y b))) apart in
    all_weaker (λ u. is_staged u ≡ true → own u ≡ true → u ≡ s) (λ u. is_staged u ≡ true → u.repo ≡ repo → u ≡ s)
    (λ u is staged mine. is staged (ap (λ (n : List ℕ). same_bytes n repo) mine ∙ named_itself repo)) us
    (all_kept (λ u. own u ≡ true → u ≡ s) is_staged us (subst (λ (o : Option row.Upload). IfSome o (λ x. IsOnly own x (filter is_staged us))) found only))
  where
    same_name : (u : row.Upload) → same_bytes u.repo repo ≡ true → u.repo ≡ repo
    same_name u is = same_text u.repo repo is

pub none_left_in : (repo : List ℕ) (us : List row.Upload) (s : row.Upload) → AllPairs DiffersInRepo (filter is_staged us) → find (is_staged_in repo) us ≡ Some s
    → NoneIn repo (delete_where (is_upload s.id) us)
none_left_in repo us s apart e =
    each_left (λ u. is_staged u ≡ true → u.repo ≡ repo → ⊥) (λ u. not (is_upload s.id u)) us
    (all_weaker (λ u. is_staged u ≡ true → u.repo ≡ repo → u ≡ s) (λ u. not (is_upload s.id u) ≡ true → is_staged u ≡ true → u.repo ≡ repo → ⊥)
    (λ u is stays staged own. absurd (true≢false (sym (ap (λ (v : row.Upload). int_eq v.id s.id) (is staged own) ∙ own_number s.id) ∙ not_is (is_upload s.id u) stays))) us
    (only_staged repo us s apart e))

-- the tables without the repository's staged upload
pub record Cleared (repo : List ℕ) (id : ℤ) (t : Tables) (world : World) : Type 0 where
  pub same : Represents t world
  pub above : IsAbove t id
  pub none : NoneIn repo t.uploads

cleared : (t : Tables) (world : World) (repo : List ℕ) (id : ℤ) → Represents t world → IsAbove t id → Cleared repo id (without_staged_in repo t) world
unfolding without_staged_in without_upload without_row without_chunks
cleared t world repo id r above = record {
  same = staged_in_withdrawn t world repo r;
  above = still (find (is_staged_in repo) t.uploads);
  none = none (find (is_staged_in repo) t.uploads) refl;
}
  where
    still : (o : Option row.Upload) → IsAbove (without_found o t) id
    still None = above
    still (Some s) = all-filter (λ u. u.id <ℤ id) (λ u. not (is_upload s.id u)) t.uploads above

    none : (o : Option row.Upload) → find (is_staged_in repo) t.uploads ≡ o → NoneIn repo (without_found o t).uploads
    none None e = none_in repo t.uploads e
    none (Some s) e = none_left_in repo t.uploads s r.objects.staged e

-- ---- one more upload

none_with : (us : List row.Upload) (id : ℤ) → AllByRecursion (λ (u : row.Upload). u.id <ℤ id) us → find (is_upload id) us ≡ None
none_with us id above = none_where (is_upload id) us (all_weaker (λ u. u.id <ℤ id) (λ u. is_upload id u ≡ false) (λ u below. apart_below u.id id below) us above)

found_last : (us : List row.Upload) (id : ℤ) (u : row.Upload) → u.id ≡ id → AllByRecursion (λ (v : row.Upload). v.id <ℤ id) us → find (is_upload id) (us ++ u ∷ []) ≡ Some u
found_last us id u is above =
    find-append (is_upload id) us (u ∷ []) ∙ ap (λ o. option_or o (find (is_upload id) (u ∷ []))) (none_with us id above)
    ∙ ap (λ b. cond b (Some u) None) (ap (λ n. int_eq n id) is ∙ own_number id)

still_found : (p : row.Upload → Bool) (us : List row.Upload) (u : row.Upload) → IsTrue (is_some (find p us)) → IsTrue (is_some (find p (us ++ u ∷ [])))
still_found p us u there = at (find p us) refl there
  where
    at : (o : Option row.Upload) → find p us ≡ o → IsTrue (is_some o) → IsTrue (is_some (find p (us ++ u ∷ [])))
    at (Some v) e is = rw (find-append p us (u ∷ []), e) refl
    at None e is = absurd (true≢false (sym is))

module _ (us : List row.Upload) (cs : List row.Chunk) (objects : List Object) (id : ℤ) (repo name : List ℕ) (size : ℕ) (r : RepresentObjects us cs objects)
    (above : AllByRecursion (λ (u : row.Upload). u.id <ℤ id) us) (none : NoneIn repo us) (in_range : size ≤ largest_object) where
  abbrev s : row.Upload
  s = staged_row id repo name size

  abbrev pub grown : List row.Upload
  grown = us ++ s ∷ []

  not_its : (c : row.Chunk) → IsTrue (is_some (find (is_upload c.upload) us)) → is_of id c ≡ false
  not_its c there = at (is_of id c) refl
    where
      at : (v : Bool) → is_of id c ≡ v → is_of id c ≡ false
      at false e = e
      at true e = absurd (true≢false (sym there ∙ ap (λ n. is_some (find (is_upload n) us)) (same_number c.upload id e) ∙ ap is_some (none_with us id above)))

  pub no_chunks : HasPieces id [] cs
  no_chunks = ap (λ own. map chunk_kept (sort_by number_cmp own)) (filter_none (is_of id) cs (all_weaker (λ (c : row.Chunk). IsTrue (is_some (find (is_upload c.upload) us))) (λ c. is_of id c ≡ false) not_its cs r.owned))

  size_of : HasSize (length (bytes_of id cs)) s
  size_of =
      let stored : length (bytes_of id cs) ≡ 0 = ap length (bytes_are id [] cs no_chunks) in
      record { size = size; is = refl; in_range = in_range; fits = omega (arith, stored); whole = λ no. absurd (true≢false (sym no)) }

  complete_grown : filter is_complete grown ≡ filter is_complete us
  complete_grown = filter-append is_complete us (s ∷ []) ∙ append-nil (filter is_complete us)

  staged_grown : filter is_staged grown ≡ filter is_staged us ++ s ∷ []
  staged_grown = filter-append is_staged us (s ∷ [])

  apart : AllPairs DiffersInRepo (filter is_staged us ++ s ∷ [])
  apart =
      all_pairs_push DiffersInRepo (filter is_staged us) s r.staged
      (All-from_recursion (λ u. DiffersInRepo u s) (filter is_staged us) (each_left (λ u. DiffersInRepo u s) is_staged us none))

  pub objects_begun : RepresentObjects grown cs objects
  objects_begun = record {
    complete = subst (λ (xs : List row.Upload). IsPermutation (map (object_in cs) xs) objects) (sym complete_grown) r.complete;
    sizes = all-append (λ (u : row.Upload). HasSize (length (bytes_of u.id cs)) u) us (s ∷ []) r.sizes (size_of, tt);
    numbered = r.numbered;
    owned = all_weaker (λ (c : row.Chunk). IsTrue (is_some (find (is_upload c.upload) us))) (λ (c : row.Chunk). IsTrue (is_some (find (is_upload c.upload) grown))) (λ c there. still_found (is_upload c.upload) us s there) cs r.owned;
    staged = subst (AllPairs DiffersInRepo) (sym staged_grown) apart;
    rise = ascending-append (λ (a b : row.Upload). a.id <ℤ b.id) us (s ∷ []) r.rise (tt, tt) (all_weaker (λ (u : row.Upload). u.id <ℤ id) (λ (u : row.Upload). AllByRecursion (λ (v : row.Upload). u.id <ℤ v.id) (s ∷ [])) (λ u below. (below, tt)) us above);
  }

-- a begun upload is not an object yet
pub begun_represented : (t : Tables) (world : World) (id : ℤ) (repo name : List ℕ) (size : ℕ) → Represents t world → IsAbove t id → size ≤ largest_object → is_retired repo name world ≡ false
    → Represents (after_begin (staged_row id repo name size) t) world
unfolding after_begin with_upload
begun_represented t world id repo name size r above in_range unretired =
    let c = cleared t world repo id r above in
    record {
      meta = c.same.meta;
      locks = c.same.locks;
      made = c.same.made;
      used = c.same.used;
      tokens = c.same.tokens;
      objects = objects_begun (without_staged_in repo t).uploads (without_staged_in repo t).chunks world.objects id repo name size c.same.objects c.above c.none in_range;
      retired = c.same.retired;
      unretired = all-append (λ (u : row.Upload). is_staged u ≡ true → is_retired u.repo u.oid world ≡ false) (without_staged_in repo t).uploads (staged_row id repo name size ∷ []) c.same.unretired ((λ _. unretired), tt);
    }

-- and it is staged
pub begun_staged : (t : Tables) (world : World) (id : ℤ) (repo name : List ℕ) (size : ℕ) → Represents t world → IsAbove t id → size ≤ largest_object
    → IsStaged id repo name size [] (after_begin (staged_row id repo name size) t)
unfolding after_begin with_upload
begun_staged t world id repo name size r above in_range =
    let c = cleared t world repo id r above in
    record {
      upload = found_last (without_staged_in repo t).uploads id (staged_row id repo name size) refl c.above;
      stored = no_chunks (without_staged_in repo t).uploads (without_staged_in repo t).chunks world.objects id repo name size c.same.objects c.above c.none in_range;
    }
