use Rattle.forms.proofs.Prelude.{◌∙◌, ap, map, IfOk-weaker, compact_text, has_float, lock_shown}
use Rattle.forms.proofs.Pages.{split_has_none}
use Rattle.forms.proofs.page.split_body.Goals as goal

pub returns : goal.returns
returns c =
    let page = c.args.page.now in
    let none = split_has_none page.next (map lock_shown page.ours.now) (map lock_shown page.theirs.now) in
    IfOk-weaker c.to_string.result _ _
    (λ text is. is (ap has_float c.in_ok-split_value.ensures ∙ none) ∙ ap compact_text c.in_ok-split_value.ensures)
    c.to_string.ensures.text
