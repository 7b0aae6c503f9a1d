use Rattle.tokens.proofs.Prelude.{◌∙◌, sym}
use Rattle.tokens.proofs.Visible.{visible_is_text}
use Rattle.tokens.proofs.bearers.visible_text.Goals as goal

pub returns-in-Err : goal.returns-in-Err
returns-in-Err c =
    absurd (c.in-Err.ensures.cases.0 (visible_is_text c.args.bytes.now (sym c.are_visible.ensures ∙ c.if-not-are_visible.false)))
