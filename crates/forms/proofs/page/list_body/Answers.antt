use Rattle.forms.proofs.Prelude.{◌∙◌, ap, IfOk-weaker, compact_text, has_float, page_shown}
use Rattle.forms.proofs.Pages.{list_has_none}
use Rattle.forms.proofs.page.list_body.Goals as goal

pub returns : goal.returns
returns c =
    IfOk-weaker c.to_string.result _ _
    (λ text is. is (ap has_float c.in_ok-list_value.ensures ∙ list_has_none (page_shown c.args.page.now)) ∙ ap compact_text c.in_ok-list_value.ensures)
    c.to_string.ensures.text
