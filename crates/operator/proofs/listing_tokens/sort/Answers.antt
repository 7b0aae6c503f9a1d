use Rattle.operator.proofs.Prelude.{rules, IfOk-weaker}
use Rattle.std.proofs.lemmas.Fn.{always_returns_same}
use Rattle.std.proofs.lemmas.List.MinMax.{ranks_by}
use Rattle.operator.proofs.Valid.{token_total}
use Rattle.operator.proofs.listing_tokens.sort.Goals as goal

pub returns-clause-sorted : goal.returns-clause-sorted
returns-clause-sorted c =
    IfOk-weaker c.sort_by.result _ _ (λ done by. by _ (ranks_by token_total (λ row. row)) (always_returns_same _ _ _ (λ a r f k. search rules))) c.sort_by.ensures.sorted
