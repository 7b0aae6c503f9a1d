-- What the command `session` does.
use Rattle.std.specs.Prelude.{◌≡◌, ℕ, List, Option, Result, Ok, Err, ⊤, if◌then◌else◌}
use Rattle.store.specs.declared.state.State.{Ghosts}
use Rattle.model.specs.Cases.{Setting}
use Rattle.model.specs.World.{World}
use Rattle.service.specs.Served.{Call, Serves}
use Rattle.service.specs.declared.ends.End.{End}
use Rattle.service.specs.declared.ends.Served.{Served}
use Rattle.faults.specs.Statuses.{is_good}
use Rattle.faults.specs.declared.faults.Fault.{Fault}
use Rattle.faults.specs.declared.faults.Fault.TheVariants.{Session}

-- how the command ends after its connection ended so
abbrev pub session_ended : End → Result ⊤ Fault
session_ended end = if is_good end then Ok tt else Err (Session end)

-- one connection was served the bytes that were left in the input, as the session theorem says, and the command ended as the
-- connection did
abbrev pub IsSession : {S : Type 0} (g : Ghosts S) → Setting → (left : Option (List ℕ)) → (old new : S) → World → Result ⊤ Fault → Type 0
IsSession g setting left old new world ended =
    (call : Call) × (call.setting ≡ setting) × (call.left ≡ left)
    × (served : Served) × Serves g call world old new served × (ended ≡ session_ended served.end)
