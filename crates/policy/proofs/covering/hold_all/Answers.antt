use Rattle.policy.proofs.Prelude.{◌∙◌, sym, string_bytes, list_all-map, held_by, texts}
use Rattle.policy.proofs.covering.hold_all.Goals as goal

pub returns : goal.returns
returns c =
    c.hold_each.ensures ∙ sym (list_all-map (held_by (texts c.args.patterns.now)) string_bytes c.args.others.now)
