-- A request to upload an object that is judged by itself: its caller, its admission, and the upload.
use Rattle.desk.proofs.Prelude.{◌≡◌, ◌∙◌, ℕ, List, Bor, IsErrAnd, subst, NotGranted, Result, Ok, Err, sym, ap, Rule, World, Repo, repo_text, is_upload, put_asked, put_verdict, request_asked, plan_for, Denial, Plan, by_rule, policy_view, admission_result, plan_seen, request_read, request_seen, setting_of}
use Rattle.model.specs.Cases.{DeskRequest, case_in}
use Rattle.model.specs.Forms.{Request}
use Rattle.names.specs.declared.texts.RepoName.{RepoName}
use Rattle.forms.specs.declared.objects.PutRequest.{PutRequest}
use Rattle.forms.specs.declared.request.Request as code
use Rattle.forms.specs.declared.request.Request.TheVariants as form
use Rattle.policy.specs.declared.policies.Policy.{Policy}
use Rattle.tokens.specs.Callers.{IsCalling}
use Rattle.tokens.specs.declared.callers.Caller.{Caller}
use Rattle.tokens.specs.declared.callers.CallerFault.{CallerFault}
use Rattle.tokens.specs.declared.callers.CallerFault.TheVariants as caller
use Rattle.desk.specs.Objects.{DeniesIf}
use Rattle.desk.specs.Receiving.{JudgesUpload, uncalled}
use Rattle.desk.specs.declared.admission.RepoRequest.{RepoRequest}
use Rattle.desk.proofs.Admitting.{admitted, own_name}
use Rattle.desk.proofs.Verdicts.{admitted_alike, held_by, held_by_none, not_taken, taken_up}

module _ (world : World) (policy : Policy) (now : ℕ) (asked : RepoRequest) (size : ℕ) where
  abbrev seen : DeskRequest
  seen = request_seen asked size

  -- the request has no caller
  pub judged_uncalled : (fault : CallerFault) → IsCalling world now seen.bearers (Err fault) → DeniesIf (uncalled fault) (plan_seen world policy now asked size)
  judged_uncalled (caller.Rule rule) called = held_by_none world (setting_of policy now) seen rule called
  judged_uncalled (caller.Store fault) called = tt

  module _ (c : Caller) (called : IsCalling world now seen.bearers (Ok c)) where
    abbrev admission : Result (Repo × Request) Rule
    admission = admission_result (policy_view policy) (repo_text c.repo) (is_upload c.operation) asked.repo.now (request_read asked)

    -- it is not admitted
    pub judged_unadmitted : (rule : Rule) → admission ≡ Err rule → plan_seen world policy now asked size ≡ Err (by_rule rule)
    judged_unadmitted rule given =
        held_by world (setting_of policy now) seen called.0 called.1
        ∙ not_taken world (setting_of policy now) seen called.0 rule (sym (admitted_alike (policy_view policy) c called.0 asked.repo.now (request_read asked) called.2) ∙ given)

    -- it is admitted, and planned by what it asks
    pub judged_admitted : (repo : Repo) (request : Request) → admission ≡ Ok (repo, request)
        → plan_seen world policy now asked size ≡ plan_for (case_in world (setting_of policy now) called.0 repo) size request
    judged_admitted repo request given =
        held_by world (setting_of policy now) seen called.0 called.1
        ∙ taken_up world (setting_of policy now) seen called.0 repo request (sym (admitted_alike (policy_view policy) c called.0 asked.repo.now (request_read asked) called.2) ∙ given)

    -- the repository has the name that was asked for
    pub judged_repo : (repo : Repo) (request : Request) → admission ≡ Ok (repo, request) → repo.name ≡ asked.repo.now
    judged_repo repo request given =
        own_name (policy_view policy) asked.repo.now repo (admitted (policy_view policy) (repo_text c.repo) (is_upload c.operation) asked.repo.now (request_read asked) repo request given).0

    -- it uploads an object
    pub judged_put : (repo : Repo) (request : code.Request) (put : PutRequest) → admission ≡ Ok (repo, request_asked request) → request ≡ form.Put put
        → plan_seen world policy now asked size ≡ put_verdict (case_in world (setting_of policy now) called.0 repo) size (put_asked put)
    judged_put repo request put given is =
        judged_admitted repo (request_asked request) given ∙ ap (λ (q : code.Request). plan_for (case_in world (setting_of policy now) called.0 repo) size (request_asked q)) is

-- a fault that is passed on
pub judged_refused : (repo : List ℕ) (plan : Result Plan Denial) (refused : NotGranted) (r : Result (Bor RepoName × Bor (List ℕ)) NotGranted) → IsErrAnd r (λ e. e ≡ refused) → DeniesIf refused plan → JudgesUpload repo plan r
judged_refused repo plan refused (Ok x) is denied = absurd is
judged_refused repo plan refused (Err e) is denied = subst (λ (x : NotGranted). DeniesIf x plan) (sym is) denied
