use Rattle.wire.proofs.Prelude.{rules, ◌==◌, any_from_yields_List, YieldsList-from_slice_split}
use Rattle.model.specs.Heads.{is_accepted}
use Rattle.wire.proofs.accept.lists_accepted.Goals as goal

pub returns : goal.returns
returns c =
    any_from_yields_List is_accepted _ _ _ c.any.ensures.ran
    (YieldsList-from_slice_split _ (λ b. b == 44) c.args.value.now c.split.ensures.rest c.split.ensures.done c.split.ensures.closure (λ x b q h. search rules))
    (λ x b q h. search rules)
