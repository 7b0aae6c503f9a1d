use Rattle.std.proofs.Common.{refl, sym}
use Rattle.policy.specs.Values.{repo_view}
use Rattle.server.proofs.requests.access_question.Goals as goal

pub returns-in-Some : goal.returns-in-Some
returns-in-Some c =
    (refl, refl, refl, refl, (repo_view c.in-Some.field-0.now, sym (rw c.as_str.ensures.value at c.in-Some.ensures.value)))
