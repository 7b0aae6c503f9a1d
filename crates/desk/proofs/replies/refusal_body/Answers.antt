use Rattle.desk.proofs.Prelude.{refl}
use Rattle.serde_json.proofs.OnLiterals.{serde_json_on_literals}
use Rattle.desk.proofs.replies.refusal_body.Goals as goal

pub returns : goal.returns
unfolding serde_json_on_literals
returns c = refl
