use Rattle.desk.proofs.Prelude.{rules, ◌∙◌, map, ap, sym, sees, lock_seen}
use Rattle.sqlite_trees.proofs.ListLemmas.{filter-map}
use Rattle.std.proofs.lemmas.Fn.{filter_same}
use Rattle.desk.specs.Askers.{asker_policy, asker_repo, asker_user}
use Rattle.desk.proofs.viewing.keep_seen.Goals as goal

pub returns : goal.returns
returns c =
    let asker = c.args.sight.now.asker in
    let seen = lock_seen (asker_repo asker) in
    ap (map seen) (filter_same _ (λ row. sees (asker_policy asker) (asker_user asker) (seen row)) _ (λ x b f k. search rules) _ _ c.retain.ensures.filtered)
    ∙ sym (filter-map (sees (asker_policy asker) (asker_user asker)) seen c.args.rows.now.items)
