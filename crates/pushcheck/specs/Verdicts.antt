-- A push and its verdicts, in the terms of the definitions.
use Rattle.names.specs.Names.{user_text, repo_text, ref_text}
use Rattle.names.specs.declared.texts.UserName.{UserName}
use Rattle.names.specs.declared.texts.RepoName.{RepoName}
use Rattle.names.specs.declared.texts.RefName.{RefName}
use Rattle.model.specs.PushChecks as model
use Rattle.pushcheck.specs.declared.pushes.Push.{Push}
use Rattle.pushcheck.specs.declared.verdicts.PushVerdict.{PushVerdict}
use Rattle.pushcheck.specs.declared.verdicts.PushVerdict.TheVariants.{Denied, Locked}
use Rattle.pushcheck.specs.declared.verdicts.PushVerdict.TheVariants as verdict

-- the push of this user to this ref of this repository
abbrev pub push_by : UserName → RepoName → RefName → model.Push
push_by user repo name = record { user = user_text user; repo = repo_text repo; ref = ref_text name }

-- a push
abbrev pub push_view : Push → model.Push
push_view push = push_by push.user.now push.repo.now push.ref_name.now

-- a verdict
abbrev pub verdict_view : PushVerdict → model.PushVerdict
verdict_view (Denied row) = model.denied_by row
verdict_view (Locked owner id) = model.locked_by (user_text owner) id
verdict_view verdict.Ok = model.free
