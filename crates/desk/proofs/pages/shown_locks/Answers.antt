use Rattle.desk.proofs.Prelude.{rules, ◌≡◌, map, IfOk-weaker, lock_shown, lock_part}
use Rattle.std.proofs.lemmas.Iterator.{YieldsList-from_slice, YieldsList-from_map_by}
use Rattle.std.proofs.lemmas.Iterator.Consumers.{map_from_collect}
use Rattle.desk.proofs.Showing.{all_shown}
use Rattle.desk.proofs.pages.shown_locks.Goals as goal

pub returns : goal.returns
returns c =
    let rows = c.args.rows.now in
    IfOk-weaker c.collect.result (λ locks. map lock_shown locks.items ≡ map lock_part rows) _ (λ locks same repo. all_shown repo locks.items rows same)
    (map_from_collect _ c.collect.ensures.ran (YieldsList-from_map_by _ lock_shown lock_part (YieldsList-from_slice rows cc) c.map.ensures.closure (λ row shown q k. search rules)))
