use Rattle.compared.proofs.KeyCalls.{keys_in_order}
use Rattle.compared.proofs.ReadCalls.{read_one}
use Rattle.compared.proofs.keys.all_keys.Goals as goal

pub returns : goal.returns
returns g c =
    read_one g.S.State _ _ c.in_ok-keys.keys _ _ _
    (λ t all. keys_in_order c.in_ok-keys.keys.items c.sort.new.keys.items t.chunks c.sort.ensures.all c.sort.ensures.ordered all)
    c.in_ok-keys.ensures
