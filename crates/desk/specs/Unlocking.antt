-- A request to release a lock.
use Rattle.std.specs.Prelude.{ℕ, Bool, List, Option, Some, None, Result, Ok, Err, if◌then◌else◌}
use Rattle.names.specs.declared.rules.Rule.TheVariants.{L2, L3}
use Rattle.model.specs.Reading.{◌>>=◌, check}
use Rattle.model.specs.declared.Right.{Right}
use Rattle.model.specs.declared.Right.TheVariants as right
use Rattle.model.specs.World.{Lock}
use Rattle.model.specs.Callers.{is_own, lock_question, sees}
use Rattle.model.specs.Answers.{Answer, Denial, releases, permit, by_rule, by_rules}
use Rattle.desk.specs.Rights.{case_policy, case_user}
use Rattle.desk.specs.declared.cases.Case.{Case}

-- the right that releasing the lock asks of the user: lock for one's own, and force for another's, or L3
abbrev pub right_to_release : List ℕ → Bool → Lock → Result Right Denial
right_to_release user force l =
    if is_own user l then Ok right.Lock else (by_rules (check force L3) >>= λ forced. Ok right.Force)

-- the verdict on the release of a lock that the caller sees
abbrev pub lock_verdict : Case → Bool → Lock → Answer
lock_verdict case force l =
    right_to_release (case_user case) force l >>= λ right.
    permit (case_policy case) (lock_question right (case_user case) l) 403 >>= λ may. Ok (releases l)

-- the verdict on the release of the lock that was found, if any; a lock that the caller does not see is none
abbrev pub found_verdict : Case → Bool → Option Lock → Answer
found_verdict case force None = Err (by_rule L2)
found_verdict case force (Some l) =
    if sees (case_policy case) (case_user case) l then lock_verdict case force l else Err (by_rule L2)
