-- Requests for pages of locks.
use Rattle.std.specs.Prelude.{ℕ, List, Some, None, Result}
use Rattle.model.specs.Reading.{◌>>=◌}
use Rattle.model.specs.Forms.{ListForm, VerifyLocksForm}
use Rattle.model.specs.Callers.{push_question}
use Rattle.model.specs.Answers.{Denial, by_rules, may_pull, permit}
use Rattle.model.specs.Pages.{cursor_in}
use Rattle.desk.specs.Rights.{case_policy, case_repo, case_user}
use Rattle.desk.specs.declared.cases.Case.{Case}

-- the filters of a request for a list, without its page
abbrev pub filters_of : ListForm → ListForm
filters_of asked = record asked { cursor = None; limit = None }

-- the filters for the locks of a ref
abbrev pub filter_by_ref : List ℕ → ListForm
filter_by_ref ref = record { path = None; id = None; ref = Some ref; cursor = None; limit = None }

-- the id at which the list begins, if the user may pull and the cursor is an id
abbrev pub list_start : Case → ListForm → Result ℕ Denial
list_start case asked =
    may_pull (case_policy case) (case_user case) (case_repo case).name 403 >>= λ may. by_rules (cursor_in asked.cursor)

-- the id at which the locks of the ref begin, if the user may push to it and the cursor is an id
abbrev pub verify_start : Case → List ℕ → VerifyLocksForm → Result ℕ Denial
verify_start case ref asked =
    permit (case_policy case) (push_question (case_user case) (case_repo case).name ref) 403 >>= λ may.
    by_rules (cursor_in asked.cursor)
