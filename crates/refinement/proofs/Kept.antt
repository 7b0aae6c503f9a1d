-- The objects of a world, and the complete uploads that are found.
use Rattle.refinement.proofs.Prelude.{◌≡◌, ◌∙◌, ℕ, pos, Bool, true, false, ◌&&◌, List, filter, find, length, Option, Some, None, option_map, is_some, bytes_eq, refl, sym, ap, is_eq-slice_cmp, World, IsWorld, Object, DiffersInName, object_named, find_filter, in_found, each_in, found_passes, both_true, Tables, is_complete, is_object, bytes_of, object_in, HasSize, Represents}
use Rattle.tables.specs.Rows as row
use Rattle.refinement.proofs.Found.{found_of, Excludes}
use Rattle.refinement.proofs.Lookups.{find_alike, same_is}

abbrev pub is_named : List ℕ → List ℕ → Object → Bool
is_named repo name o = bytes_eq o.repo repo && bytes_eq o.name name

-- the order of three tests
three : (a b c : Bool) → (c && (a && b)) ≡ (a && (b && c))
three true true true = refl
three true true false = refl
three true false true = refl
three true false false = refl
three false true true = refl
three false true false = refl
three false false true = refl
three false false false = refl

-- the complete upload that is found, among the complete ones
pub found_among : (t : Tables) (repo name : List ℕ) → find (λ u. is_named repo name (object_in t.chunks u)) (filter is_complete t.uploads) ≡ find (is_object repo name) t.uploads
found_among t repo name =
    let is = is_named repo name in
    find_filter (λ u. is (object_in t.chunks u)) is_complete t.uploads
    ∙ find_alike (λ u. is_complete u && is (object_in t.chunks u)) (is_object repo name) t.uploads
    (λ u. rw (is_eq-slice_cmp u.repo repo, is_eq-slice_cmp u.oid name) (three (bytes_eq u.repo repo) (bytes_eq u.oid name) (is_complete u)))

-- the complete upload that is found is the world's object of the name
pub object_found : (t : Tables) (world : World) (repo name : List ℕ) → Represents t world → IsWorld world
    → option_map (object_in t.chunks) (find (is_object repo name) t.uploads) ≡ object_named repo name world
object_found t world repo name s w =
    let is : Object → Bool = λ o. bytes_eq o.repo repo && bytes_eq o.name name in
    let one : Excludes is DiffersInName = λ x y differ a b.
    let p = both_true _ _ a in let q = both_true _ _ b in
    differ (same_is x.repo repo p.0 ∙ sym (same_is y.repo repo q.0)) (same_is x.name name p.1 ∙ sym (same_is y.name name q.1)) in
    ap (option_map (object_in t.chunks)) (sym (found_among t repo name))
    ∙ found_of (object_in t.chunks) is DiffersInName (filter is_complete t.uploads) world.objects s.objects.complete one w.names

-- a complete upload is found exactly if the world has the object
pub object_known : (t : Tables) (world : World) (repo name : List ℕ) → Represents t world → IsWorld world
    → is_some (find (is_object repo name) t.uploads) ≡ is_some (object_named repo name world)
object_known t world repo name s w =
    let some_map : (o : Option row.Upload) → is_some (option_map (object_in t.chunks) o) ≡ is_some o = λ o. elim o as (λ p. is_some (option_map (object_in t.chunks) p) ≡ is_some p) [ None ↦ refl | Some u ↦ refl ] in
    sym (some_map (find (is_object repo name) t.uploads)) ∙ ap is_some (object_found t world repo name s w)

-- the size of a complete upload is the number of its bytes
pub found_size : (t : Tables) (world : World) (repo name : List ℕ) (u : row.Upload) → Represents t world → find (is_object repo name) t.uploads ≡ Some u
    → u.size ≡ pos (length (bytes_of u.id t.chunks))
found_size t world repo name u s e =
    let size = each_in (λ (v : row.Upload). HasSize (length (bytes_of v.id t.chunks)) v) t.uploads u s.objects.sizes (in_found (is_object repo name) t.uploads u e) in
    let passes = found_passes (is_object repo name) t.uploads u e in
    size.is ∙ ap pos (sym (size.whole (both_true _ _ (both_true _ _ passes).1).1))
