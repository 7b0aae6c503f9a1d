-- Requests for objects.
use Rattle.std.specs.Prelude.{◌≡◌, ℕ, List, Bool, ◌||◌, ◌==◌, Option, is_some, Result, Ok, Err, ⊤}
use Rattle.names.specs.declared.rules.Rule.TheVariants.{V1, V2}
use Rattle.model.specs.Reading.{◌>>=◌, check, ok_or}
use Rattle.model.specs.RepoState.{RepoState, size_of, has_room}
use Rattle.model.specs.Answers.{Denial, Plan, by_rules}
use Rattle.desk.specs.declared.outcomes.NotGranted.{NotGranted}
use Rattle.desk.specs.declared.outcomes.NotGranted.TheVariants as not_granted
use Rattle.desk.specs.Rights.{denial_view}

-- an object was found, and has this size; or V1 or V2
abbrev pub size_check : Option ℕ → ℕ → Result ⊤ Denial
size_check found size = by_rules (ok_or found V1) >>= λ stored. by_rules (check (stored == size) V2)

-- the quota holds an upload of this size, or an object of the name is stored
abbrev pub has_place : (size : ℕ) (name : List ℕ) → RepoState → Bool
has_place size name state = has_room size state || is_some (size_of name state)

-- the request is denied so; or the store refused
abbrev pub DeniesIf : NotGranted → Result Plan Denial → Type 0
DeniesIf (not_granted.Denied denial) planned = planned ≡ Err (denial_view denial)
DeniesIf (not_granted.Store fault) planned = ⊤

-- the request is granted by this plan, or is denied so; or the store refused
abbrev pub Permits : Result ⊤ NotGranted → Plan → Result Plan Denial → Type 0
Permits (Ok may) plan planned = planned ≡ Ok plan
Permits (Err refused) plan planned = DeniesIf refused planned
