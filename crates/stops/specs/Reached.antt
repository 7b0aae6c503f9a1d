-- Worlds of runs from the empty world, and files that hold them.
use Rattle.std.specs.Prelude.{ℕ, List, [], ◌∷◌}
use Rattle.sqlite_wal.specs.Recovery.{Image}
use Rattle.model.specs.World.{World, nothing}
use Rattle.model.specs.Steps.{Event, Run}
use Rattle.refinement.specs.Opening.{HoldsAmong}
use Rattle.reopened.specs.Opening.{HoldAmong}

-- a run of the definitions leads from the empty world to this one
abbrev pub IsReached : World → Type 0
IsReached world = (events : List Event) × Run nothing events world

-- the files hold the world of such a run
abbrev pub HoldsReached : Image → Type 0
HoldsReached image = ∥ ((world : World) × IsReached world × HoldsAmong image (world ∷ [])) ∥₁

-- the same for a database with a file of contents
abbrev pub HoldReached : Image → List ℕ → Type 0
HoldReached image file = ∥ ((world : World) × IsReached world × HoldAmong image file (world ∷ [])) ∥₁
