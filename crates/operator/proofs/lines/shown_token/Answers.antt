use Rattle.operator.proofs.Prelude.{◌∙◌, ap, IfOk-weaker, shown}
use Rattle.operator.proofs.lines.shown_token.Goals as goal

pub returns : goal.returns
returns c = IfOk-weaker c.shown.result _ _ (λ bytes is. is ∙ ap (shown c.args.destination) (c.as_bytes.ensures.value ∙ c.in_ok-line.ensures)) c.shown.ensures
