use Rattle.std.proofs.Common.{rules}
use Rattle.std.proofs.lemmas.List.Sorted.{answers_always}
use Rattle.compared.proofs.KeyCalls.{sorted_keys}
use Rattle.compared.proofs.keys.sort.Goals as goal

pub returns-clause-ordered : goal.returns-clause-ordered
returns-clause-ordered c =
    sorted_keys c.sort_unstable_by_key.new.self.items
    (c.sort_unstable_by_key.ensures.sorted (λ k. (k.upload.number, k.n)) (answers_always _ _ _ (λ f a r q k. search rules)))
