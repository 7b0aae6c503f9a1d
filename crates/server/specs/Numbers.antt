-- The numbers of a status.
use Rattle.std.specs.Prelude.{List}
use Rattle.std.specs.List.{AllZip}
use Rattle.model.specs.Policy as model
use Rattle.model.specs.World.{World}
use Rattle.metrics.specs.Stored.{IsStored}
use Rattle.metrics.specs.declared.status.Stored.{Stored}

-- the numbers are those of the repositories, in their order
abbrev pub AllStored : World → List model.Repo → List Stored → Type 0
AllStored world repos all = AllZip (λ repo stored. IsStored world repo.name stored) repos all
