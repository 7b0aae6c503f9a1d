-- The locks that are found in a world.
use Rattle.std.specs.Prelude.{ℕ, ◌&&◌, ◌==◌, List, find, Option, bytes_eq}
use Rattle.model.specs.World.{World, Lock}
use Rattle.model.specs.RepoState.{locks_of}

-- the repository's lock on the path of the ref
abbrev pub lock_on : List ℕ → List ℕ → List ℕ → World → Option Lock
lock_on repo ref path world = find (λ l. bytes_eq l.ref ref && bytes_eq l.path path) (locks_of repo world)

-- the repository's lock with the id
abbrev pub lock_with : List ℕ → ℕ → World → Option Lock
lock_with repo id world = find (λ l. l.id == id) (locks_of repo world)
