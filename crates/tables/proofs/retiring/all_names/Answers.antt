use Rattle.tables.proofs.Prelude.{arith, rules, ◌≤◌, ℕ, List, length, map, sym, ap, ◌∙◌, map-id, one_more}
use Rattle.std.proofs.lemmas.List.{length-map, take_all}
use Rattle.tables.specs.Rows.{Retired}
use Rattle.tables.specs.Statements.{show_retired}
use Rattle.tables.proofs.retiring.all_names.Goals as goal

pub loop-row-preserved : goal.loop-row-preserved
loop-row-preserved c retired all =
    one_more show_retired (λ (r : Retired). r.oid) (λ (o : List ℕ). o) c.args.rows.now retired c.loop-row.row-index c.row-item.result c.in_ok-name.name c.loop-row.names.items c.push.new.self.items all c.loop-row-test.true c.row-item.is c.in_ok-name.ensures
    (c.loop-row.invariant retired all) (search rules)

pub returns : goal.returns
returns c retired all =
    let past : length c.args.rows.now ≤ c.loop-row.row-index = search rules in
    let whole : length retired ≤ c.loop-row.row-index = omega (arith, past, ap length all, length-map retired show_retired) in
    sym (map-id c.loop-row.names.items) ∙ c.loop-row.invariant retired all ∙ ap (map (λ (r : Retired). r.oid)) (take_all c.loop-row.row-index retired whole)
