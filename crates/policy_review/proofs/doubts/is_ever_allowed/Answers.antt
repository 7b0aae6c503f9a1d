use Rattle.policy_review.proofs.Prelude.{◌∙◌, sym, ap}
use Rattle.policy.specs.Values.{row_view}
use Rattle.policy_review.specs.Doubts.{allows, is_ever_allowed}
use Rattle.policy_review.proofs.Lists.{list_any-map}
use Rattle.policy_review.proofs.doubts.is_ever_allowed.Goals as goal

pub returns : goal.returns
returns c =
    let user = c.args.user.now in
    c.any_allows.ensures ∙ sym (list_any-map (allows user) row_view c.rows.result.now)
    ∙ ap (λ rows. is_ever_allowed rows user) c.rows.ensures
