use Rattle.forms.proofs.Prelude.{rules}
use Rattle.serde_json.proofs.OnLiterals.{serde_json_on_literals}
use Rattle.forms.proofs.answer.message_body.Goals as goal

pub returns : goal.returns
unfolding serde_json_on_literals
returns c = search rules
