-- What an inspection that finds nothing damaged says of the tables.
use Rattle.operator.proofs.Prelude.{⊤, ◌≡◌, ◌∙◌, ◌+◌, ◌<◌, ◌≤◌, ◌++◌, ◌∷◌, ℕ, List, [], Result, Ok, Err, Some, IfOk, OnOk, ap, get_or, length, map, refl, rules, subst, sym, take, true, false, Ghosts, UploadRow, repo_text}
use Rattle.std.specs.Prelude.{ℤ, pos, Bool, not, IfSome, Option, None, vec_len, filter, find, option_map, nat_eq, bytes_eq, ◌&&◌}
use Rattle.std.specs.List.{All, AllByRecursion}
use Rattle.std.proofs.Common.{true≢false}
use Rattle.std.proofs.lemmas.Bool.{eqb-true, not-false}
use Rattle.std.proofs.lemmas.List.{take_all, take_more}
use Rattle.std.proofs.lemmas.List.Elements.{All-append, recursion_from_All}
use Rattle.std.proofs.lemmas.Slice.Eq.{bytes_eq-Decides}
use Rattle.sqlite_trees.proofs.ListLemmas.{all-permutation}
use Rattle.sqlite_keyed.proofs.SortLemmas.{IsPermutation-sort_by}
use Rattle.model.proofs.Checks.{find_ok}
use Rattle.model.proofs.Lists.{find_weaker, found_passes}
use Rattle.model.specs.World.{name_of}
use Rattle.store.specs.Shown.{Answers, HasTables, IsHonest, IsOpen, Moves, shown}
use Rattle.tables.specs.Rows.{Tables, Upload}
use Rattle.tables.specs.Staging.{AreUploadsOf, IsObjectOf, Sized, UploadFields, objects_of, read_object, read_upload, upload_fields, upload_number, upload_sized}
use Rattle.tables.specs.Statements.{by_name, is_complete, is_object, name_cmp, same_bytes}
use Rattle.store.specs.ReadFaults.{result_behind}
use Rattle.store.specs.declared.read_fault.ReadFault.{ReadFault}
use Rattle.tables.specs.declared.rows.ObjectRow.{ObjectRow}
use Rattle.tables.specs.declared.rows.UploadId.{UploadId}
use Rattle.refinement.proofs.Counts.{same_text}
use Rattle.refinement.proofs.Same.{same_pos}
use Rattle.refinement.specs.Objects.{IsStored}
use Rattle.chunks.specs.Pouring.{OfBytes}
use Rattle.uploads.proofs.Listed.{name_total}
use Rattle.operator.specs.Damage.{AreSound, FindsSound, HasRow, IsRowSound, has_bytes}
use Rattle.operator.specs.Inspections.{IsChecked}
use Rattle.operator.specs.declared.inspecting.Inspection.{Inspection}

-- ---- an object that is looked at

-- the object that is found is the row's, if the tables have the row's object
pub found_same : (t : Tables) (row : UploadRow) (found : ObjectRow) (is : Bool) → IsObjectOf (Some found) (find (is_object (repo_text row.repo) row.oid) t.uploads)
    → (found.id ≡ row.id → found.size ≡ row.size → is ≡ true) → HasRow t row → is ≡ true
found_same t row found is object both has =
    let sized : Some (read_object found) ≡ Some (record { id = upload_number row.id; size = pos row.size }) = object ∙ has in
    let same : read_object found ≡ record { id = upload_number row.id; size = pos row.size } = cc in
    both (ap (λ (n : ℤ). record { number = n }) (ap (λ (z : Sized). z.id) same)) (same_pos found.size row.size (ap (λ (z : Sized). z.size) same))

-- an object that is not found is not the row's
pub none_same : (t : Tables) (row : UploadRow) → IsObjectOf None (find (is_object (repo_text row.repo) row.oid) t.uploads) → HasRow t row → false ≡ true
none_same t row object has =
    let wanted : Option Sized = Some (record { id = upload_number row.id; size = pos row.size }) in
    let no : None ≡ wanted = object ∙ has in
    absurd (cc)

module _ {S : Type 0} (g : Ghosts S) where
  -- an object that is stored as it was listed is sound, if its bytes are not damaged
  pub looked_at : (a b c : S) (row : UploadRow) (r : Result Bool ReadFault) → Moves g (λ t. t) a b → (IsHonest g c → IsHonest g b) → (IsHonest g b → HasTables g a → IsOpen g a)
      → OfBytes g b c (upload_number row.id) (λ bytes. IfOk r (λ damaged. damaged ≡ not (has_bytes row bytes))) → Answers g a c (result_behind r) (λ t damaged. damaged ≡ false → IsRowSound t row)
  looked_at a b c row (Err e) same was opened exact honest ready = tt
  looked_at a b c row (Ok damaged) same was opened exact honest ready = (
    opened (was honest) ready,
    λ no has bytes stored.
        not-false (has_bytes row bytes)
        (sym (exact honest (same.ready ready) bytes (λ k o. subst (λ (t : Tables). IsStored (upload_number row.id) bytes t.chunks) (sym (same.shows k ready o)) stored)) ∙ no),
  )

  -- an object that is not stored as it was listed is sound
  pub passed_over : (a b : S) (row : UploadRow) (stored : Bool) → stored ≡ false → Answers g a b (Ok stored) (λ t stored. HasRow t row → stored ≡ true)
      → Answers g a b (Ok false) (λ t damaged. damaged ≡ false → IsRowSound t row)
  passed_over a b row stored gone exact honest ready =
      let said = exact honest ready in
      (said.0, λ _ has bytes is. absurd (true≢false (sym (said.1 has) ∙ gone)))

  -- ---- all of them

  -- one more object is sound
  pub checked_more : (a b : S) (rows : List UploadRow) (next : ℕ) (row : UploadRow) → Moves g (λ t. t) a b → HasTables g a → next < length rows → row ≡ get_or rows next row
      → Answers g a b (Ok (Some false)) (λ t found. found ≡ Some false → IsRowSound t row) → (IsHonest g a → IsOpen g a → All (IsRowSound (shown g a)) (take next rows))
      → IsHonest g b → IsOpen g b → All (IsRowSound (shown g b)) (take (next + 1) rows)
  checked_more a b rows next row same ready inside is said before honest opened =
      let P : List UploadRow → Type 0 = All (IsRowSound (shown g a)) in
      let one : P (row ∷ []) = search (rules, (said honest ready).1 refl) in
      subst (λ (t : Tables). All (IsRowSound t) (take (next + 1) rows)) (sym (same.shows honest ready opened))
      (subst P (sym (take_more rows next row inside ∙ ap (λ (r : UploadRow). take next rows ++ r ∷ []) (sym is)))
      (All-append (IsRowSound (shown g a)) (take next rows) (row ∷ []) (before (same.was_honest honest) (same.was_open honest opened)) one))

-- ---- the objects of the tables

-- what is wanted of each object
abbrev IsOwn : Tables → Upload → Type 0
IsOwn t u = find (is_object u.repo u.oid) t.uploads ≡ Some u → (bytes : List ℕ) → IsStored u.id bytes t.chunks → (u.size ≡ pos (length bytes)) × (name_of bytes ≡ u.oid)

first_true : (a b : Bool) → (a && b) ≡ true → a ≡ true
first_true true b e = refl
first_true false b e = e

second_true : (a b : Bool) → (a && b) ≡ true → b ≡ true
second_true true b e = e
second_true false b e = search (rules, e)

own_by : (t : Tables) (row : UploadRow) (u : Upload) → read_upload row ≡ upload_fields u → IsRowSound t row → IsOwn t u
own_by t row u is sound found bytes stored =
    let id : upload_number row.id ≡ u.id = ap (λ (f : UploadFields). f.id) is in
    let repo : repo_text row.repo ≡ u.repo = ap (λ (f : UploadFields). f.repo) is in
    let oid : row.oid ≡ u.oid = ap (λ (f : UploadFields). f.oid) is in
    let size : pos row.size ≡ u.size = ap (λ (f : UploadFields). f.size) is in
    let has : HasRow t row = rw (repo, oid, id, size, found) refl in
    let all = sound has bytes (subst (λ (n : ℤ). IsStored n bytes t.chunks) (sym id) stored) in (
      sym size ∙ ap pos (sym (eqb-true (length bytes) row.size (first_true (nat_eq (length bytes) row.size) _ all))),
      (bytes_eq-Decides (name_of bytes) row.oid).0 (second_true (nat_eq (length bytes) row.size) (bytes_eq (name_of bytes) row.oid) all) ∙ oid,
    )

own_each : (t : Tables) (rows : List UploadRow) (us : List Upload) → AreUploadsOf rows us → AllByRecursion (IsRowSound t) rows → AllByRecursion (IsOwn t) us
own_each t [] [] e sound = tt
own_each t [] (u ∷ us) e sound = absurd (cc)
own_each t (row ∷ rows) [] e sound = absurd (cc)
own_each t (row ∷ rows) (u ∷ us) e sound =
    let first : read_upload row ≡ upload_fields u = cc in
    let rest : map read_upload rows ≡ map upload_fields us = cc in
    (own_by t row u first sound.0, own_each t rows us rest sound.1)

-- if the rows of all objects are sound, the bytes of each object are those of its name
pub all_sound : (t : Tables) (rows : List UploadRow) (next : ℕ) → AreUploadsOf rows (objects_of None t) → length rows ≤ next → All (IsRowSound t) (take next rows) → AreSound t
all_sound t rows next are past sound repo name u found bytes stored =
    let done = filter is_complete t.uploads in
    let each = own_each t rows (by_name done) are (recursion_from_All (IsRowSound t) rows (subst (All (IsRowSound t)) (take_all next rows past) sound)) in
    let all = all-permutation (IsOwn t) (by_name done) done (IsPermutation-sort_by name_cmp name_total done) each in
    let passes = found_passes (is_object repo name) t.uploads u found in
    let kept : find (is_object repo name) done ≡ Some u =
    find_weaker (is_object repo name) is_complete t.uploads (each_complete repo name t.uploads) ∙ found in
    let own = subst (λ (o : Option Upload). IfSome o (IsOwn t)) kept (find_ok (IsOwn t) (is_object repo name) done all) in
    let same_repo : u.repo ≡ repo = same_text u.repo repo (first_true (same_bytes u.repo repo) _ passes) in
    let rest = second_true (same_bytes u.repo repo) (same_bytes u.oid name && is_complete u) passes in
    let same_name : u.oid ≡ name = same_text u.oid name (first_true (same_bytes u.oid name) (is_complete u) rest) in
    let at_repo = subst (λ (r : List ℕ). find (is_object r name) t.uploads ≡ Some u) (sym same_repo) found in
    let is = own (subst (λ (n : List ℕ). find (is_object u.repo n) t.uploads ≡ Some u) (sym same_name) at_repo) bytes stored in
    (is.0, is.1 ∙ same_name)
  where
    each_complete : (repo name : List ℕ) (us : List Upload) → AllByRecursion (λ (v : Upload). is_object repo name v ≡ true → is_complete v ≡ true) us
    each_complete repo name [] = tt
    each_complete repo name (v ∷ us) = (
      λ e. second_true (same_bytes v.oid name) (is_complete v) (second_true (same_bytes v.repo repo) (same_bytes v.oid name && is_complete v) e),
      each_complete repo name us,
    )

-- an inspection that has begun
pub checked_none : {S : Type 0} (g : Ghosts S) (s : S) (is : Inspection) → is.next ≡ 0 → IsChecked g s is
checked_none g s is none honest opened clean read =
    let P : List UploadRow → Type 0 = All (IsRowSound (shown g s)) in
    let empty : P [] = search rules in
    subst (λ (n : ℕ). P (take n is.rows.items)) (sym none) empty

-- an inspection whose store was only read
pub checked_still : {S : Type 0} (g : Ghosts S) (a b : S) (is : Inspection) → Moves g (λ t. t) a b → HasTables g a → IsChecked g a is → IsChecked g b is
checked_still g a b is same ready before honest opened clean read =
    subst (λ (t : Tables). All (IsRowSound t) (take is.next is.rows.items)) (sym (same.shows honest ready opened))
    (before (same.was_honest honest) (same.was_open honest opened) clean read)

-- an inspection that has gone over all objects, and found none damaged
pub inspected_sound : {S : Type 0} (g : Ghosts S) (a b : S) (is : Inspection) → Moves g (λ t. t) a b → IsChecked g b is → vec_len is.rows ≤ is.next → is.damaged ≡ 0
    → is.unread ≡ 0 → (IsHonest g b → HasTables g a → AreUploadsOf is.rows.items (objects_of None (shown g a))) → FindsSound g a b
inspected_sound g a b is same checked done none read are ready honest opened =
    all_sound (shown g b) is.rows.items is.next (subst (λ (t : Tables). AreUploadsOf is.rows.items (objects_of None t)) (sym (same.shows honest ready opened)) (are honest ready))
    (subst (λ (n : ℕ). n ≤ is.next) is.rows.ok.0 done) (checked honest opened none read)
