use Rattle.cursor.proofs.Prelude.{rules, ◌∙◌, map, ap, sym, nat_le, filter-map, lock_seen}
use Rattle.std.proofs.lemmas.Fn.{filter_same}
use Rattle.cursor.proofs.copies.keep_from.Goals as goal

pub returns : goal.returns
returns c repo =
    ap (map (lock_seen repo)) (filter_same _ (λ row. nat_le c.args.start row.id) _ (λ x b f k. search rules) _ _ c.retain.ensures.filtered)
    ∙ sym (filter-map (λ l. nat_le c.args.start l.id) (lock_seen repo) c.args.rows.now.items)
