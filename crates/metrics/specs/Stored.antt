-- What the status of a server says of a repository.
use Rattle.std.specs.Prelude.{◌≡◌, ℕ, List}
use Rattle.model.specs.World.{World, total}
use Rattle.metrics.specs.declared.status.Stored as declared

-- the bytes of the repository's objects, and how many locks were ever made in it
abbrev pub IsStored : World → (repo : List ℕ) → declared.Stored → Type 0
IsStored world repo stored = (stored.used ≡ total repo world) × (stored.locks_made ≡ world.made repo)
