-- The world without a lock that was found.
use Rattle.std.specs.Prelude.{Option, Some, None}
use Rattle.model.specs.World.{World, Lock, without_lock}

-- the world without this lock, if there is one
abbrev pub without_found : Option Lock → World → World
without_found None world = world
without_found (Some l) world = without_lock l world
