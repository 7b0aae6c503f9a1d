-- A change of a file after which it may be that nothing more may be asked of it.
use Rattle.std.specs.Prelude.{ℕ, List, IsTrue}
use Rattle.sqlite_disk.specs.Disk.{Follows}
use Rattle.sqlite_disk.specs.declared.Disk.{Ghosts}

-- the file, and whatever a stop leaves of it, was changed by this step; the disk was honest if it is
pub record IsAlteredBy {D : Type 0} (d : Ghosts D) (step : List ℕ → List ℕ → Type 0) (old new : D) : Type 0 where
  pub seen : step (d.seen old) (d.seen new)
  pub stop : Follows step (d.may_leave old) (d.may_leave new)
  pub clean : IsTrue (d.is_clean new) → IsTrue (d.is_clean old)
