use Rattle.tables.proofs.Prelude.{arith, rules, refl, w64, to_z-of_z, IfOk-weaker, state, repo_text, add_used, set_used}
use Rattle.tables.specs.Statements.{writing}
use Rattle.tables.proofs.Counting.{total_new, total_at}
use Rattle.tables.proofs.uploads.set_used.Goals as goal

pub returns-in-None-clause-ok : goal.returns-in-None-clause-ok
unfolding writing
returns-in-None-clause-ok g c totals clean inside ready =
    IfOk-weaker c.change.result _ _ (λ _ h. total_new (state g.S.Store c.args.tx.now.conn.now) (state g.S.Store c.change.new.tx.conn.now) (repo_text c.args.repo.now) c.args.used c.args.total totals c.in-None.is h)
    (c.change.ensures.ok (add_used (repo_text c.args.repo.now) c.args.used) refl (rw (c.params-to_sql.ensures, c.params-to_sql-in-None.ensures, c.as_str.ensures.value, to_z-of_z w64 c.args.used (search rules))) clean inside ready)

pub returns-in-Some-clause-ok : goal.returns-in-Some-clause-ok
unfolding writing
returns-in-Some-clause-ok g c totals clean inside ready =
    IfOk-weaker c.change-in-Some.result _ _
    (λ _ h. total_at (state g.S.Store c.args.tx.now.conn.now) (state g.S.Store c.change-in-Some.new.tx.conn.now) (repo_text c.args.repo.now) c.args.used c.args.total totals c.in-Some.total c.in-Some.is
    (ready (omega (arith, clean, c.change-in-Some.ensures.within.survives.clean)) h.was_open) h)
    (c.change-in-Some.ensures.ok (set_used c.in-Some.total.rowid c.args.used) refl
    (rw (c.params-to_sql-in-Some.ensures, c.params-to_sql-in-Some-2.ensures, to_z-of_z w64 c.in-Some.total.rowid (search rules), to_z-of_z w64 c.args.used (search rules))) clean inside ready)
