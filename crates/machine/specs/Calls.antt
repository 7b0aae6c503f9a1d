-- Calls of a machine, one after the other.
use Rattle.std.specs.Prelude.{◌≡◌, List, [], ◌∷◌}
use Rattle.machine.specs.declared.machine.Machine as machine
use Rattle.machine.specs.Observations.{Observation}

-- a call of a machine: something is observed, or no step depends on it
pub data Call : Type 0 where
  idles : Call
  observes : Observation → Call

-- what is observed
abbrev pub seen_in : List Call → List Observation
seen_in [] = []
seen_in (idles ∷ calls) = seen_in calls
seen_in (observes seen ∷ calls) = seen ∷ seen_in calls

module _ {M : Type 0} (m : machine.Ghosts M) where
  -- the calls made this machine the other one, one after the other
  abbrev pub Calls : M → List Call → M → Type 0
  Calls was [] is = is ≡ was
  Calls was (idles ∷ calls) is = (mid : M) × m.idled was mid × Calls mid calls is
  Calls was (observes seen ∷ calls) is = (mid : M) × m.observed was mid seen × Calls mid calls is
