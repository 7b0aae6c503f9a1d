use Rattle.cursor.proofs.Prelude.{rules, ◌∙◌, map, ap, sym, filter-map, lock_seen, is_wanted}
use Rattle.std.proofs.lemmas.Fn.{filter_same}
use Rattle.cursor.proofs.windows.keep_wanted.Goals as goal

pub returns : goal.returns
returns g c repo sees answers =
    ap (map (lock_seen repo)) (filter_same _ (λ row. is_wanted c.args.wanted.now sees (lock_seen repo row)) _ (λ x b f k. search rules) _ _ c.retain.ensures.filtered)
    ∙ sym (filter-map (is_wanted c.args.wanted.now sees) (lock_seen repo) c.args.rows.now.items)
