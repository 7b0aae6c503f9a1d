-- Requests that only read their repository.
use Rattle.std.specs.Prelude.{◌≡◌, ℕ, List, Result, Ok, Err, ⊤}
use Rattle.model.specs.Callers.{Caller}
use Rattle.model.specs.Cases as model
use Rattle.model.specs.Policy.{Repo}
use Rattle.model.specs.RepoState.{RepoState}
use Rattle.model.specs.Answers.{Answer, Denial, Plan}
use Rattle.model.specs.Views.{plan_reply}
use Rattle.desk.specs.declared.cases.Case.{Case}
use Rattle.desk.specs.declared.outcomes.NotGranted.{NotGranted}
use Rattle.desk.specs.declared.outcomes.NotGranted.TheVariants as not_granted
use Rattle.desk.specs.declared.readers.RepoReader.{Ghosts}
use Rattle.desk.specs.declared.replies.Reply.{Reply}
use Rattle.desk.specs.Asking.{setting_of}
use Rattle.desk.specs.Replies.{IsReply, IsReplyOf}
use Rattle.desk.specs.Rights.{IsUserOf, IsCallerOf, case_repo, denial_view}

-- the case of this caller in a repository that has this state
abbrev pub case_with : Case → Caller → RepoState → model.Case
case_with case who state =
    record { setting = setting_of case.policy.now case.now; caller = who; repo = case_repo case; state = state }

-- the result shows the verdict: its reply, or its denial; or the store refused
abbrev pub ShowsVerdict : Result Reply NotGranted → Answer → Type 0
ShowsVerdict (Ok reply) verdict = IsReplyOf reply verdict
ShowsVerdict (Err (not_granted.Store fault)) verdict = ⊤
ShowsVerdict (Err (not_granted.Denied denial)) verdict = verdict ≡ Err (denial_view denial)

-- the same for a plan: the reply says which object it sends
abbrev pub ShowsPlan : Result Reply NotGranted → Result Plan Denial → Type 0
ShowsPlan (Ok reply) plan = (repo body : List ℕ) → IsReply reply (plan_reply repo body plan)
ShowsPlan (Err (not_granted.Store fault)) plan = ⊤
ShowsPlan (Err (not_granted.Denied denial)) plan = plan ≡ Err (denial_view denial)

module _ {R : Type 0} (g : Ghosts R) where
  -- the reader only read, and this holds of the state that it shows of the repository
  pub record ReadsRepo (old new : R) (repo : Repo) (P : RepoState → Type 0) : Type 0 where
    pub reads : g.reads old new
    pub each : g.honest new → (state : RepoState) → g.shows old repo state → P state

  -- the user of the case is shown the verdict on what the reader shows of the repository
  abbrev pub ShowsUser : Case → R → R → (model.Case → Answer) → Result Reply NotGranted → Type 0
  ShowsUser case old new verdict r =
      ReadsRepo old new (case_repo case) (λ state. (who : Caller) → IsUserOf case who → ShowsVerdict r (verdict (case_with case who state)))

  -- the same, if the verdict also depends on the token that the caller presented
  abbrev pub ShowsCaller : Case → R → R → (model.Case → Answer) → Result Reply NotGranted → Type 0
  ShowsCaller case old new verdict r =
      ReadsRepo old new (case_repo case) (λ state. (who : Caller) → IsCallerOf case who → ShowsVerdict r (verdict (case_with case who state)))
