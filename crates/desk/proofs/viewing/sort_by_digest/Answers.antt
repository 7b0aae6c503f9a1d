use Rattle.desk.proofs.Prelude.{rules, IfOk-weaker}
use Rattle.std.proofs.lemmas.Fn.{always_returns_same}
use Rattle.desk.proofs.viewing.sort_by_digest.Goals as goal

pub returns-clause-sorted : goal.returns-clause-sorted
returns-clause-sorted c =
    IfOk-weaker c.sort_by_key.result _ _ (λ done by. by (λ token. token.digest) (always_returns_same _ _ _ (λ a r f k. search rules))) c.sort_by_key.ensures.sorted
