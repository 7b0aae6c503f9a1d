use Rattle.policy.proofs.Prelude.{◌∙◌, sym, pattern_view, pattern_holds, holds_every}
use Rattle.policy.proofs.Lists.{list_any-map}
use Rattle.policy.proofs.patterns.hold_if_named.Goals as goal

pub returns-in-Some : goal.returns-in-Some
returns-in-Some c = rw c.in-Some.is (c.any_holds.ensures ∙ sym (list_any-map (λ p. pattern_holds p c.in-Some.text.now) pattern_view c.args.patterns.now))

pub returns-in-None : goal.returns-in-None
returns-in-None c = rw c.in-None.is (c.any_holds_every.ensures ∙ sym (list_any-map holds_every pattern_view c.args.patterns.now))
