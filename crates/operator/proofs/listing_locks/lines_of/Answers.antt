use Rattle.operator.proofs.Prelude.{◌∙◌, ◌++◌, ◌∷◌, [], ap, append_assoc, sym, shown, line, text_of, flat_map}
use Rattle.std.proofs.lemmas.List.{take_all}
use Rattle.std.proofs.lemmas.List.Folds.{flat_map-map}
use Rattle.model.specs.Moments.{moment_text}
use Rattle.model.specs.World.{Lock}
use Rattle.tables.specs.declared.rows.LockRow.{LockRow}
use Rattle.locks.specs.Finding.{lock_seen}
use Rattle.operator.specs.Lines.{lock_line}
use Rattle.operator.proofs.Printed.{line_more}
use Rattle.operator.proofs.listing_locks.lines_of.Goals as goal

pub loop-row-preserved : goal.loop-row-preserved
loop-row-preserved c =
    let row = c.row-item.result in
    let old = text_of c.loop-row.lines in
    line_more (λ (r : LockRow). line (shown c.args.destination (lock_line (lock_seen [] r) (moment_text r.moment)))) c.args.rows.now c.loop-row.row-index row old _ c.loop-row-test.true c.row-item.is
    c.loop-row.invariant
    (c.in_ok-push.ensures ∙ ap (λ l. old ++ l ++ 10 ∷ []) (c.as_slice.ensures.value ∙ c.in_ok-shown_lock.ensures []) ∙ append_assoc old _ (10 ∷ []))

pub returns : goal.returns
returns c repo =
    c.loop-row.invariant ∙ ap (flat_map (λ (r : LockRow). line (shown c.args.destination (lock_line (lock_seen [] r) (moment_text r.moment))))) (take_all c.loop-row.row-index c.args.rows.now c.loop-row-test.false)
    ∙ sym (flat_map-map (λ (l : Lock). line (shown c.args.destination (lock_line l (moment_text l.at)))) (lock_seen repo) c.args.rows.now)
