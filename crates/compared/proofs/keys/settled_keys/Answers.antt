use Rattle.std.proofs.Common.{rules, not}
use Rattle.std.proofs.lemmas.Fn.{filter_same}
use Rattle.tables.specs.Listing.{read_key}
use Rattle.compared.proofs.KeyCalls.{is_among, settled_in_order}
use Rattle.compared.proofs.ReadCalls.{read_two}
use Rattle.compared.proofs.keys.settled_keys.Goals as goal

pub returns : goal.returns
returns g c =
    read_two g.S.State _ _ _ c.in_ok-staged.staged c.in_ok-keys.keys _ _ _ _
    (λ t are all. settled_in_order c.in_ok-staged.staged.items c.in_ok-keys.keys.items c.retain.new.self.items c.sort.new.keys.items t
    (filter_same _ (λ k. not (is_among c.in_ok-staged.staged.items (read_key k))) _ (λ x b f k. search rules) _ _ c.retain.ensures.filtered)
    c.sort.ensures.all c.sort.ensures.ordered are all)
    c.in_ok-staged.ensures c.in_ok-keys.ensures
