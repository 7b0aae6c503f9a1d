use Rattle.policy.proofs.Prelude.{◌∙◌, sym, ap, arith, question_view}
use Rattle.std.proofs.lemmas.Bool.{le-ltb}
use Rattle.policy.specs.Index.{row_covers}
use Rattle.policy.proofs.Indexed.{row_here, row_past}
use Rattle.policy.proofs.path_index.IndexedRows.covers_at.Goals as goal

pub returns-then-position-len : goal.returns-then-position-len
returns-then-position-len c =
    let rows = c.args.self.now.rows in
    c.covers_place.ensures
    ∙ sym (ap (row_covers (question_view c.args.question.now))
    (row_here rows.items c.args.position c.index.result.now (omega (arith, c.if-position-len.true, c.len.ensures, rows.ok.0)) c.index.ensures))

pub returns-else-position-len : goal.returns-else-position-len
returns-else-position-len c =
    let rows = c.args.self.now.rows in
    le-ltb c.args.position c.len.result c.if-position-len.false
    ∙ sym (ap (row_covers (question_view c.args.question.now))
    (row_past rows.items c.args.position (omega (arith, c.if-position-len.false, c.len.ensures, rows.ok.0))))
