use Rattle.policy.proofs.Prelude.{◌∙◌, sym, string_bytes, is_any}
use Rattle.policy.proofs.Lists.{list_any-map}
use Rattle.policy.proofs.rows.held_if_named.Goals as goal

pub returns-in-Some : goal.returns-in-Some
returns-in-Some c = rw c.in-Some.is c.held_by.ensures

pub returns-in-None : goal.returns-in-None
returns-in-None c =
    rw c.in-None.is (c.has_any.ensures ∙ sym (list_any-map is_any string_bytes c.args.patterns.now))
