-- The verdicts on single objects: Get, Put, Verify (Git LFS API, Basic Transfers).
use Rattle.std.specs.Prelude.{ℕ, ◌==◌, ◌||◌, List, Result, Ok, bytes_eq, is_some, not}
use Rattle.names.specs.declared.rules.Rule.TheVariants.{X1, X2, X3, X4, V1, V2}
use Rattle.model.specs.Reading.{◌>>=◌, check, ok_or}
use Rattle.model.specs.World.{World, Object, object_named, name_of}
use Rattle.model.specs.RepoState.{size_of, is_gone, has_room}
use Rattle.model.specs.Forms.{PutForm, VerifyForm}
use Rattle.model.specs.Cases.{Case}
use Rattle.model.specs.Answers.{Denial, by_rules, may_pull, may_push, Answer, serves, stores, confirms, Plan, grants, sends, receives}
use Rattle.model.specs.Locks.{ref_or_default}

-- the verdict on a download: a name that was retired is gone, and another may not be stored
abbrev pub get_verdict : Case → List ℕ → Result Plan Denial
get_verdict c name = do
  may ← may_pull c.setting.policy c.caller.user c.repo.name 404
  there ← by_rules (check (not (is_gone name c.state)) X4)
  size ← by_rules (ok_or (size_of name c.state) X1)
  Ok (sends name size)

-- the verdict on an upload of that many bytes, before they are read: the name is not retired, and the quota holds them or
-- the name is stored
abbrev pub put_verdict : Case → ℕ → PutForm → Result Plan Denial
put_verdict c left asked = do
  may ← may_push c.setting.policy c.caller.user c.repo.name (ref_or_default asked.ref c.repo)
  there ← by_rules (check (not (is_gone asked.name c.state)) X4)
  fits ← by_rules (check (has_room left c.state || is_some (size_of asked.name c.state)) X3)
  Ok (receives asked.name)

-- the verdict on a request to verify an object
abbrev pub verify_verdict : Case → VerifyForm → Answer
verify_verdict c asked = do
  may ← may_push c.setting.policy c.caller.user c.repo.name (ref_or_default asked.ref c.repo)
  size ← by_rules (ok_or (size_of asked.name c.state) V1)
  same ← by_rules (check (size == asked.size) V2)
  Ok confirms

-- ---- once the content is read

-- the object is stored if its bytes have its name
abbrev pub content_verdict : Object → Answer
content_verdict o = by_rules (check (bytes_eq o.name (name_of o.bytes)) X2) >>= λ same. Ok (stores o)

-- the answer that a plan leads to, with the bytes that are sent or received; in a world a plan to send finds its object
abbrev pub finish : World → List ℕ → List ℕ → Plan → Answer
finish world repo body (grants grant) = Ok grant
finish world repo body (sends name size) = by_rules (ok_or (object_named repo name world) X1) >>= λ o. Ok (serves o)
finish world repo body (receives name) = content_verdict (record { repo = repo; name = name; bytes = body })
