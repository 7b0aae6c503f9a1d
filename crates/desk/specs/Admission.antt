-- Which requests are admitted.
use Rattle.std.specs.Prelude.{ℕ, Bool, not, ◌||◌, List, Result, Ok, bytes_eq}
use Rattle.std.specs.Borrow.{Bor}
use Rattle.names.specs.declared.rules.Rule.{Rule}
use Rattle.names.specs.declared.rules.Rule.TheVariants.{A4, A5, R1}
use Rattle.model.specs.Reading.{◌>>=◌, check, ok_or}
use Rattle.model.specs.Policy as model
use Rattle.model.specs.Policy.{Policy, repo_named}
use Rattle.model.specs.Forms as form
use Rattle.model.specs.Forms.{needs_upload}
use Rattle.forms.specs.Requests.{request_asked}
use Rattle.forms.specs.declared.request.Request.{Request}
use Rattle.policy.specs.Values.{repo_view}
use Rattle.policy.specs.declared.repos.Repo.{Repo}

-- the repository and the request, for a token of this repository that covers uploads or not
abbrev pub admission_result : Policy → List ℕ → Bool → List ℕ → Result form.Request Rule → Result (model.Repo × form.Request) Rule
admission_result policy own covers_upload repo_asked asked = do
  is_own ← check (bytes_eq own repo_asked) A4
  repo ← ok_or (repo_named repo_asked policy) R1
  request ← asked
  covered ← check (not (needs_upload request) || covers_upload) A5
  Ok (repo, request)

-- the repository and the request, in the terms of the definitions
abbrev pub admission_view : Bor Repo × Bor Request → model.Repo × form.Request
admission_view (repo, request) = (repo_view repo.now, request_asked request.now)
