use Rattle.std.proofs.Common.{rules}
use Rattle.std.proofs.lemmas.List.Sorted.{answers_always}
use Rattle.compared.proofs.KeyCalls.{is_before, rise_decided}
use Rattle.compared.proofs.keys.rise.Goals as goal

pub returns : goal.returns
returns c = rise_decided c.args.keys.now c.is_sorted_by.result (c.is_sorted_by.ensures.cases is_before (answers_always _ _ _ (λ f a r q k. search rules)))
