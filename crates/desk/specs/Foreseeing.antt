-- Replies that are foreseen from what a user sees.
use Rattle.std.specs.Prelude.{◌≡◌, ◌==◌, ◌&&◌, ℕ, Bool, true, false, List, Option, Some, None, Result, Ok, Err, bytes_eq, option_map, ⊤}
use Rattle.names.specs.Names.{path_text, ref_text}
use Rattle.names.specs.declared.rules.Rule.{Rule}
use Rattle.names.specs.declared.rules.Rule.TheVariants.{A4, R1}
use Rattle.model.specs.Answers.{by_rule}
use Rattle.model.specs.Callers.{sees}
use Rattle.model.specs.Policy.{Repo, repo_named}
use Rattle.model.specs.Reading.{◌>>=◌}
use Rattle.tables.specs.declared.rows.LockRow.{LockRow}
use Rattle.locks.specs.Finding.{lock_seen}
use Rattle.model.specs.Forms.{Request}
use Rattle.model.specs.Replies as model
use Rattle.model.specs.Replies.{reply_of}
use Rattle.model.specs.Views.{View, OwnToken, CallerRequest, NoCaller, no_caller, caller_in, foresee}
use Rattle.tokens.specs.Bearers.{single_value}
use Rattle.desk.specs.declared.admission.RepoRequest.{RepoRequest}
use Rattle.desk.specs.declared.foreseeing.ForeseeFault.{ForeseeFault}
use Rattle.desk.specs.declared.foreseeing.ForeseeFault.TheVariants as fault
use Rattle.desk.specs.declared.outcomes.NotGranted.{NotGranted}
use Rattle.desk.specs.declared.outcomes.NotGranted.TheVariants as not_granted
use Rattle.desk.specs.declared.replies.Reply.{Reply}
use Rattle.desk.specs.declared.rights.Asker.{Asker}
use Rattle.desk.specs.Askers.{asker_policy, asker_repo, asker_user}
use Rattle.desk.specs.Asking.{request_read}
use Rattle.desk.specs.Replies.{IsReply}
use Rattle.desk.specs.Rights.{denial_view}

-- the result shows this reply: its own, or that to its denial; or memory ran out
abbrev pub ShowsReply : Result Reply NotGranted → model.Reply → Type 0
ShowsReply (Ok reply) is = IsReply reply is
ShowsReply (Err (not_granted.Store fault)) is = ⊤
ShowsReply (Err (not_granted.Denied denial)) is = is ≡ reply_of (Err (denial_view denial))

-- the values of Authorization
abbrev pub bearers_of : RepoRequest → List (List ℕ)
bearers_of a = single_value (option_map (λ v. v.now) a.authorization)

-- the request with its whole body, and the values of Authorization
abbrev pub caller_request : RepoRequest → List ℕ → Request → CallerRequest
caller_request a body request = record { bearers = bearers_of a; request = request; body = body }

-- the reply is the foreseen one; there is no caller; or memory ran out, and there is one
abbrev pub IsForeseenAs : Result Reply ForeseeFault → Result model.Reply NoCaller → Type 0
IsForeseenAs (Ok reply) seen = (is : model.Reply) × (seen ≡ Ok is) × IsReply reply is
IsForeseenAs (Err fault.NoCaller) seen = seen ≡ Err no_caller
IsForeseenAs (Err fault.Memory) seen = (is : model.Reply) × (seen ≡ Ok is)

-- the reply to the caller of the view by this rule, or that there is no caller
abbrev pub refused_by : View → ℕ → RepoRequest → Rule → Result model.Reply NoCaller
refused_by view now a rule = caller_in view now (bearers_of a) >>= λ caller. Ok (reply_of (Err (by_rule rule)))

-- the first rule that refuses a request that this J rule refuses, by the policy's repository
abbrev pub rule_in : Option Repo → Rule → Rule
rule_in None rule = R1
rule_in (Some repo) rule = rule

-- what is foreseen of a request, by whether it is in the repository of the view, and by what it asks
abbrev pub foreseen_by : View → ℕ → RepoRequest → List ℕ → Bool → Result Request Rule → Result model.Reply NoCaller
foreseen_by view now a body false asked = refused_by view now a A4
foreseen_by view now a body true (Err rule) = refused_by view now a (rule_in (repo_named a.repo.now view.policy) rule)
foreseen_by view now a body true (Ok request) = foresee view now (caller_request a body request)

-- what is foreseen of any request
abbrev pub foreseen : View → ℕ → RepoRequest → List ℕ → Result model.Reply NoCaller
foreseen view now a body = foreseen_by view now a body (bytes_eq view.repo a.repo.now) (request_read a)

-- the result is what is foreseen of the request
abbrev pub IsForeseen : View → ℕ → RepoRequest → List ℕ → Result Reply ForeseeFault → Type 0
IsForeseen view now a body r = IsForeseenAs r (foreseen view now a body)

-- the caller is the one of the view that presents this text and has this token
abbrev pub IsCallerIn : View → ℕ → List (List ℕ) → List ℕ → OwnToken → Type 0
IsCallerIn view now bearers text t =
    caller_in view now bearers ≡ Ok (record { token = text; user = view.user; repo = view.repo; operation = t.operation; expires = t.expires })

-- the lock of the row is on the path of the ref
abbrev pub is_on : List ℕ → List ℕ → LockRow → Bool
is_on ref path row = bytes_eq (ref_text row.ref_name) ref && bytes_eq (path_text row.path) path

-- the lock of the row has the id, and the user sees it
abbrev pub is_seen : Asker → ℕ → LockRow → Bool
is_seen a id row = row.id == id && sees (asker_policy a) (asker_user a) (lock_seen (asker_repo a) row)
