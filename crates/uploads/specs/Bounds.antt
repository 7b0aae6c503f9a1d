-- How many bytes a repository has in the database.
use Rattle.std.specs.Prelude.{◌≤◌, ℕ, List, length, filter, bytes_eq, sum_by}
use Rattle.std.specs.List.{AllByRecursion}
use Rattle.store.specs.declared.state.State.{Ghosts}
use Rattle.model.specs.World.{total}
use Rattle.model.specs.Bounds.{Bound}
use Rattle.tables.specs.Rows.{Tables}
use Rattle.store.specs.Shown.{IsHonest, IsOpen, Leaves, shown}
use Rattle.refinement.specs.Objects.{bytes_of}

-- the bytes of the repository's uploads, complete or staged, added up
abbrev pub stored_in : List ℕ → Tables → ℕ
stored_in repo t = sum_by (λ u. length (bytes_of u.id t.chunks)) (filter (λ u. bytes_eq u.repo repo) t.uploads)

-- in each of these worlds, the sizes of the repository's objects add up to at most this number
abbrev pub AreWithin : List ℕ → ℕ → Bound → Type 0
AreWithin repo most bound = AllByRecursion (λ world. total repo world ≤ most) bound

module _ {S : Type 0} (g : Ghosts S) where
  -- while the disk is honest and the store open, the repository has at most this number of bytes in its database
  abbrev pub StoresWithin : S → List ℕ → ℕ → Type 0
  StoresWithin s repo most = IsHonest g s → IsOpen g s → stored_in repo (shown g s) ≤ most

  -- whatever a stop now leaves, the repository has at most this number of bytes in it
  abbrev pub LeavesWithin : S → List ℕ → ℕ → Type 0
  LeavesWithin s repo most = IsHonest g s → (t : Tables) → Leaves g s t → stored_in repo t ≤ most
