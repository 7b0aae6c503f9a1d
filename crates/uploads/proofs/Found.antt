-- The objects that are found are objects of the world, for proofs in other crates.
use Rattle.uploads.proofs.Prelude.{◌≡◌, ◌∙◌, ℕ, ℤ, pos, List, length, find, Option, Some, None, option_map, refl, sym, ap, subst, Ghosts, World, IsWorld, object_named, Tables, HasTables, Moves, shown, Sized, upload_sized, read_object, IsObjectOf, upload_number, ObjectRow, bytes_of, pieces_of, object_in, IsStored, Represents, same_pos}
use Rattle.tables.specs.Rows as row
use Rattle.tables.specs.Statements.{is_object}
use Rattle.refinement.proofs.Kept.{object_found, found_size}
use Rattle.uploads.specs.Finding.{Finds}

-- the object of the upload that was found
object_is : (t : Tables) (world : World) (repo name : List ℕ) (o : Option row.Upload) → find (is_object repo name) t.uploads ≡ o → Represents t world → IsWorld world
    → option_map (object_in t.chunks) o ≡ object_named repo name world
object_is t world repo name o e s w = ap (option_map (object_in t.chunks)) (sym e) ∙ object_found t world repo name s w

module _ {S : Type 0} (g : Ghosts S) (old new : S) (world : World) (repo name : List ℕ) (ready : HasTables g old) (moves : Moves g (λ t. t) old new) (s : Represents (shown g old) world) (w : IsWorld world) where
  found_by : (found : Option ObjectRow) (o : Option row.Upload) → find (is_object repo name) (shown g old).uploads ≡ o → IsObjectOf found o → Finds g world new repo name found
  found_by None None e is = sym (object_is (shown g old) world repo name None e s w)
  found_by None (Some u) e is = absurd (cc)
  found_by (Some r) None e is = absurd (cc)
  found_by (Some r) (Some u) e is =
      let sized : read_object r ≡ upload_sized u = cc in
      let own : u.id ≡ upload_number r.id = ap (λ (z : Sized). z.id) (sym sized) in
      let size : pos r.size ≡ pos (length (bytes_of u.id (shown g old).chunks)) = ap (λ (z : Sized). z.size) sized ∙ found_size (shown g old) world repo name u s e in (
        object_in (shown g old).chunks u,
        sym (object_is (shown g old) world repo name (Some u) e s w),
        same_pos r.size (length (bytes_of u.id (shown g old).chunks)) size,
        λ k o. subst (λ (t : Tables). IsStored (upload_number r.id) (bytes_of u.id (shown g old).chunks) t.chunks) (sym (moves.shows k ready o))
            (subst (λ (n : ℤ). IsStored n (bytes_of u.id (shown g old).chunks) (shown g old).chunks) own (pieces_of u.id (shown g old).chunks, s.objects.numbered u.id, refl)),
      )

  pub finds_by : (found : Option ObjectRow) → IsObjectOf found (find (is_object repo name) (shown g old).uploads) → Finds g world new repo name found
  finds_by found is = found_by found (find (is_object repo name) (shown g old).uploads) refl is
