-- The objects that are listed.
use Rattle.std.specs.Prelude.{◌≡◌, ℕ, Bool, true, false, List, length, filter, bytes_eq, Option, Some, None, AllPairs, IsPermutation}
use Rattle.std.specs.List.{AllZip}
use Rattle.std.specs.Ordering.{nat_cmp, ordering_then, is_gt}
use Rattle.std.specs.Cmp.Lexicographic.{slice_cmp}
use Rattle.store.specs.declared.state.State.{Ghosts}
use Rattle.names.specs.Names.{repo_text}
use Rattle.model.specs.World.{World, Object}
use Rattle.tables.specs.Staging.{upload_number}
use Rattle.tables.specs.declared.rows.UploadRow.{UploadRow}
use Rattle.refinement.specs.Staging.{Stores}

-- the object is in the repository, or no repository is given
abbrev pub is_listed : Option (List ℕ) → Object → Bool
is_listed (Some repo) o = bytes_eq o.repo repo
is_listed None o = true

-- an object is not after another in the order of repositories and names
abbrev pub IsNotAfter : Object → Object → Type 0
IsNotAfter a b = is_gt (ordering_then (slice_cmp nat_cmp a.repo b.repo) (slice_cmp nat_cmp a.name b.name)) ≡ false

module _ {S : Type 0} (g : Ghosts S) where
  -- the row has this object: its repository, its name, its size, and the upload that has its bytes
  pub record IsRowOf (s : S) (row : UploadRow) (o : Object) : Type 0 where
    pub repo : repo_text row.repo ≡ o.repo
    pub name : row.oid ≡ o.name
    pub size : row.size ≡ length o.bytes
    pub bytes : Stores g s (upload_number row.id) o.bytes

  -- the rows are the objects of the repository, or all objects, in the order of repositories and names
  pub record Lists (world : World) (s : S) (repo : Option (List ℕ)) (rows : List UploadRow) : Type 0 where
    pub objects : List Object
    pub same : IsPermutation objects (filter (is_listed repo) world.objects)
    pub rise : AllPairs IsNotAfter objects
    pub each : AllZip (IsRowOf s) rows objects
