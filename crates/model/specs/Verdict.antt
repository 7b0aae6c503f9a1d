-- The verdict on a request: one chain of checks, in the order of the rules.
use Rattle.std.specs.Prelude.{ℕ, Bool, not, ◌||◌, List, [], Result, Ok, codes, bytes_eq, ⊤}
use Rattle.httparse.specs.Grammar.{RequestHead}
use Rattle.names.specs.declared.rules.Rule.TheVariants as rule
use Rattle.model.specs.declared.Form.{Form}
use Rattle.model.specs.declared.Form.TheVariants as form
use Rattle.model.specs.Reading.{◌>>=◌, check, ok_or}
use Rattle.model.specs.Policy.{repo_named}
use Rattle.model.specs.World.{World}
use Rattle.model.specs.Forms.{Request, asks_batch, asks_get, asks_put, asks_verify, asks_lock, asks_list, asks_verify_locks, asks_unlock, request_of, needs_upload, is_upload}
use Rattle.model.specs.Heads.{Target, values, head_verdict, content_length, query_of}
use Rattle.model.specs.Callers.{Caller, caller_by}
use Rattle.model.specs.Cases.{Setting, Case, case_in, DeskRequest}
use Rattle.model.specs.Answers.{Denial, by_rules, Answer, Plan, grants}
use Rattle.model.specs.Locks.{lock_verdict, list_verdict, verify_locks_verdict, unlock_verdict}
use Rattle.model.specs.Objects.{get_verdict, put_verdict, verify_verdict, finish}
use Rattle.model.specs.Batch.{batch_verdict}

-- ---- at the desk

-- a verdict that no content decides, as a plan
abbrev pub plan_to : Answer → Result Plan Denial
plan_to answer = answer >>= λ grant. Ok (grants grant)

-- the first refusal by the policy and by what the repository has, or the plan; left is the length of an upload's body
abbrev pub plan_for : Case → ℕ → Request → Result Plan Denial
plan_for c left (asks_batch asked) = plan_to (batch_verdict c asked)
plan_for c left (asks_get name) = get_verdict c name
plan_for c left (asks_put asked) = put_verdict c left asked
plan_for c left (asks_verify asked) = plan_to (verify_verdict c asked)
plan_for c left (asks_lock asked) = plan_to (lock_verdict c asked)
plan_for c left (asks_list asked) = plan_to (list_verdict c asked)
plan_for c left (asks_verify_locks asked) = plan_to (verify_locks_verdict c asked)
plan_for c left (asks_unlock asked) = plan_to (unlock_verdict c asked)

-- the token covers the request
abbrev pub is_covered : Caller → Request → Bool
is_covered caller request = not (needs_upload request) || is_upload caller.operation

-- the same for a caller who is known: the token's repository, the policy's, the request's own rules, the token's cover
abbrev pub caller_plan : World → Setting → Caller → DeskRequest → Result Plan Denial
caller_plan world setting caller asked = do
  own ← by_rules (check (bytes_eq caller.repo asked.repo) rule.A4)
  repo ← by_rules (ok_or (repo_named asked.repo setting.policy) rule.R1)
  request ← by_rules asked.request
  covered ← by_rules (check (is_covered caller request) rule.A5)
  plan_for (case_in world setting caller repo) asked.left request

-- the same for any request to the desk
abbrev pub desk_plan : World → Setting → DeskRequest → Result Plan Denial
desk_plan world setting asked =
    by_rules (caller_by world setting.now asked.bearers) >>= λ caller. caller_plan world setting caller asked

-- the verdict on a request to the desk, with the whole body of an upload
abbrev pub desk_verdict : World → Setting → DeskRequest → List ℕ → Answer
desk_verdict world setting asked body = desk_plan world setting asked >>= λ plan. finish world asked.repo body plan

-- ---- on a message

-- the request that a head and a body make to the desk
abbrev pub desk_request : RequestHead → Target → List ℕ → DeskRequest
desk_request head target body = record {
  bearers = values (codes "authorization") head;
  repo = target.repo;
  left = content_length head;
  request = request_of target.form target.parameter (query_of head.target) body;
}

-- the verdict on a head and its whole body
unfoldable pub verdict : World → Setting → RequestHead → List ℕ → Answer
verdict world setting head body =
    by_rules (head_verdict head) >>= λ target. desk_verdict world setting (desk_request head target body) body

-- before the body is read, the plan of an upload may be refused, and no other plan
abbrev pub early_check : Form → Result Plan Denial → Result ⊤ Denial
early_check form.Put plan = plan >>= λ granted. Ok tt
early_check _ plan = Ok tt

-- what denies the message before its body is read, if anything does
unfoldable pub early_verdict : World → Setting → RequestHead → Result ⊤ Denial
early_verdict world setting head =
    by_rules (head_verdict head) >>= λ target.
    early_check target.form (desk_plan world setting (desk_request head target []))
