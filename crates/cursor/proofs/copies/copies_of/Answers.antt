use Rattle.cursor.proofs.Prelude.{◌∙◌, ◌++◌, ◌∷◌, [], map, take, sym, ap, ap₂, lock_seen}
use Rattle.std.proofs.lemmas.List.{map-append, take_more}
use Rattle.cursor.proofs.copies.copies_of.Goals as goal

pub loop-row-preserved : goal.loop-row-preserved
loop-row-preserved c repo =
    let seen = lock_seen repo in
    let front = take c.loop-row.row-index c.args.rows.now in
    let next = take_more c.args.rows.now c.loop-row.row-index c.row-item.result c.loop-row-test.true ∙ ap (λ row. front ++ row ∷ []) (sym c.row-item.is) in
    ap (map seen) c.in_ok-push.ensures.items ∙ map-append seen c.loop-row.copies.items (c.in_ok-copy.copy ∷ [])
    ∙ ap₂ (λ copies copy. copies ++ copy ∷ []) (c.loop-row.invariant repo) (c.in_ok-copy.ensures repo)
    ∙ sym (map-append seen front (c.row-item.result ∷ [])) ∙ ap (map seen) (sym next)
