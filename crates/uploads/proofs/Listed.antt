-- The rows that are listed are the objects of the world, for proofs in other crates.
use Rattle.uploads.proofs.Prelude.{◌≡◌, ◌∙◌, ℕ, ℤ, pos, Bool, true, false, ◌&&◌, cond, List, [], ◌∷◌, map, filter, length, bytes_eq, Option, Some, None, Ordering, Less, Equal, Greater, is_gt, refl, sym, ap, subst, AllPairs, IsPermutation, AllByRecursion, AllZip, Ghosts, IsPermutation-filter, filter-map, filter_all, World, Object, Tables, HasTables, Moves, shown, UploadFields, upload_fields, read_upload, upload_number, AreUploadsOf, objects_of, is_complete, is_object_in, name_cmp, by_name, UploadRow, HasSize, bytes_of, pieces_of, object_in, IsStored, Represents, same_pos, is_listed, IsNotAfter, IsRowOf, Lists}
use Rattle.std.specs.Ordering.{nat_cmp, ordering_then}
use Rattle.std.specs.Cmp.{IsTotalOrder}
use Rattle.std.specs.Cmp.Lexicographic.{slice_cmp}
use Rattle.std.proofs.lemmas.Cmp.{on_total, then_total, int_cmp_total, nat_list_cmp_total}
use Rattle.std.proofs.lemmas.List.Sorted.{IsPermutation-map, IsPermutation-trans}
use Rattle.std.proofs.lemmas.Map.Text.{is_eq-slice_cmp}
use Rattle.sqlite_trees.specs.Tree.{IsAscending}
use Rattle.sqlite_keyed.proofs.ListLemmas.{ascending-map, ascending_weaker}
use Rattle.sqlite_keyed.proofs.SortLemmas.{IsPermutation-sort_by}
use Rattle.model.proofs.Lists.{each_in, each_of, each_passes, in_before_filter}
use Rattle.tables.specs.Rows as row
use Rattle.refinement.proofs.Sorting.{NotAfter, each_sorted, sorted_rises, into_pairs}

-- ---- the order of the rows is that of the objects

pub name_total : IsTotalOrder name_cmp
name_total =
    then_total (on_total (λ (u : row.Upload). u.repo) nat_list_cmp_total)
    (then_total (on_total (λ (u : row.Upload). u.oid) nat_list_cmp_total) (on_total (λ (u : row.Upload). u.id) int_cmp_total))

first_two : (a b c : Ordering) → is_gt (ordering_then a (ordering_then b c)) ≡ false → is_gt (ordering_then a b) ≡ false
first_two Less b c e = refl
first_two Equal Less c e = refl
first_two Equal Equal c e = refl
first_two Equal Greater c e = e
first_two Greater b c e = e

objects_rise : (chunks : List row.Chunk) (us : List row.Upload) → IsAscending (NotAfter name_cmp name_total) us → AllPairs IsNotAfter (map (object_in chunks) us)
objects_rise chunks us up =
    into_pairs IsNotAfter (map (object_in chunks) us)
    (ascending-map IsNotAfter (object_in chunks) us
    (ascending_weaker (NotAfter name_cmp name_total) (λ u v. IsNotAfter (object_in chunks u) (object_in chunks v)) (λ u v. first_two (slice_cmp nat_cmp u.repo v.repo) (slice_cmp nat_cmp u.oid v.oid) _) us up))

-- ---- the rows are those of the objects

-- the complete uploads of the repository, or all
abbrev listed_in : Option (List ℕ) → Tables → List row.Upload
listed_in repo t = filter (λ u. is_listed repo (object_in t.chunks u)) (filter is_complete t.uploads)

abbrev is_own : List ℕ → List row.Chunk → row.Upload → Bool
is_own repo chunks u = bytes_eq (object_in chunks u).repo repo

own_filter : (repo : List ℕ) (chunks : List row.Chunk) (us : List row.Upload) → filter (is_object_in repo) us ≡ filter (is_own repo chunks) (filter is_complete us)
own_filter repo chunks [] = refl
own_filter repo chunks (u ∷ us) = rw (is_eq-slice_cmp u.repo repo) (at (bytes_eq u.repo repo) (is_complete u) refl (own_filter repo chunks us))
  where
    at : (is done : Bool) → bytes_eq u.repo repo ≡ is → filter (is_object_in repo) us ≡ filter (is_own repo chunks) (filter is_complete us)
        → cond (is && done) (u ∷ filter (is_object_in repo) us) (filter (is_object_in repo) us) ≡ filter (is_own repo chunks) (cond done (u ∷ filter is_complete us) (filter is_complete us))
    at true true e rest = rw e (ap (λ l. u ∷ l) rest)
    at false true e rest = rw e rest
    at true false e rest = rest
    at false false e rest = rest

rows_of : (repo : Option (List ℕ)) (t : Tables) → objects_of repo t ≡ by_name (listed_in repo t)
rows_of (Some repo) t = ap by_name (own_filter repo t.chunks t.uploads)
rows_of None t = ap by_name (sym (filter_all (λ (u : row.Upload). true) (filter is_complete t.uploads) (each_of (λ u. true ≡ true) (filter is_complete t.uploads) (λ u is. refl))))

-- the size of the upload is the number of its bytes
abbrev IsWhole : List row.Chunk → row.Upload → Type 0
IsWhole chunks u = u.size ≡ pos (length (bytes_of u.id chunks))

all_whole : (repo : Option (List ℕ)) (t : Tables) (world : World) → Represents t world → AllByRecursion (IsWhole t.chunks) (listed_in repo t)
all_whole repo t world s = each_of (IsWhole t.chunks) (listed_in repo t) (λ u is.
    let done = in_before_filter (λ v. is_listed repo (object_in t.chunks v)) (filter is_complete t.uploads) u is in
    let size = each_in (λ (v : row.Upload). HasSize (length (bytes_of v.id t.chunks)) v) t.uploads u s.objects.sizes (in_before_filter is_complete t.uploads u done) in
    size.is ∙ ap pos (sym (size.whole (each_in (λ (v : row.Upload). is_complete v ≡ true) (filter is_complete t.uploads) u (each_passes is_complete t.uploads) done))))

same_objects : (repo : Option (List ℕ)) (t : Tables) (world : World) → Represents t world → IsPermutation (map (object_in t.chunks) (by_name (listed_in repo t))) (filter (is_listed repo) world.objects)
same_objects repo t world s =
    let f = object_in t.chunks in
    let rows = listed_in repo t in
    let done = filter is_complete t.uploads in
    IsPermutation-trans (map f (by_name rows)) (map f rows) (filter (is_listed repo) world.objects)
    (IsPermutation-map f (by_name rows) rows (IsPermutation-sort_by name_cmp name_total rows))
    (subst (λ (os : List Object). IsPermutation os (filter (is_listed repo) world.objects)) (filter-map (is_listed repo) f done)
    (IsPermutation-filter (is_listed repo) (map f done) world.objects s.objects.complete))

module _ {S : Type 0} (g : Ghosts S) (old new : S) (world : World) (repo : Option (List ℕ)) (ready : HasTables g old) (moves : Moves g (λ t. t) old new) (s : Represents (shown g old) world) where
  row_is : (r : UploadRow) (u : row.Upload) → read_upload r ≡ upload_fields u → IsWhole (shown g old).chunks u → IsRowOf g new r (object_in (shown g old).chunks u)
  row_is r u is whole =
      let chunks = (shown g old).chunks in
      let own : u.id ≡ upload_number r.id = ap (λ (f : UploadFields). f.id) (sym is) in
      record {
        repo = ap (λ (f : UploadFields). f.repo) is;
        name = ap (λ (f : UploadFields). f.oid) is;
        size = same_pos r.size (length (bytes_of u.id chunks)) (ap (λ (f : UploadFields). f.size) is ∙ whole);
        bytes = λ k o. subst (λ (t : Tables). IsStored (upload_number r.id) (bytes_of u.id chunks) t.chunks) (sym (moves.shows k ready o))
            (subst (λ (n : ℤ). IsStored n (bytes_of u.id chunks) chunks) own (pieces_of u.id chunks, s.objects.numbered u.id, refl));
      }

  rows_are : (found : List UploadRow) (us : List row.Upload) → AreUploadsOf found us → AllByRecursion (IsWhole (shown g old).chunks) us → AllZip (IsRowOf g new) found (map (object_in (shown g old).chunks) us)
  rows_are [] [] e whole = tt
  rows_are [] (u ∷ us) e whole = absurd (cc)
  rows_are (r ∷ rs) [] e whole = absurd (cc)
  rows_are (r ∷ rs) (u ∷ us) e whole =
      let first : read_upload r ≡ upload_fields u = cc in
      let rest : map read_upload rs ≡ map upload_fields us = cc in
      (row_is r u first whole.0, rows_are rs us rest whole.1)

  pub lists_by : (found : List UploadRow) → AreUploadsOf found (objects_of repo (shown g old)) → Lists g world new repo found
  lists_by found is =
      let rows = listed_in repo (shown g old) in record {
        objects = map (object_in (shown g old).chunks) (by_name rows);
        same = same_objects repo (shown g old) world s;
        rise = objects_rise (shown g old).chunks (by_name rows) (sorted_rises name_cmp name_total rows);
        each = rows_are found (by_name rows) (subst (AreUploadsOf found) (rows_of repo (shown g old)) is) (each_sorted name_cmp name_total (IsWhole (shown g old).chunks) rows (all_whole repo (shown g old) world s));
      }
