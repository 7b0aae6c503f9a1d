use Rattle.tables.proofs.Prelude.{arith, rules, pos, refl, w64, to_z-of_z, IfOk-weaker, state, repo_text, add_repo, set_made}
use Rattle.tables.specs.Statements.{writing}
use Rattle.tables.proofs.Counting.{counted_new, counted_at}
use Rattle.tables.proofs.locks.set_count.Goals as goal

pub returns-in-None-clause-ok : goal.returns-in-None-clause-ok
unfolding writing
returns-in-None-clause-ok g c counts clean inside ready =
    IfOk-weaker c.change.result _ _ (λ _ h. counted_new (state g.S.Store c.args.tx.now.conn.now) (state g.S.Store c.change.new.tx.conn.now) (repo_text c.args.repo.now) (pos c.args.made) c.args.count counts c.in-None.is h)
    (c.change.ensures.ok (add_repo (repo_text c.args.repo.now) (pos c.args.made)) refl (rw (c.params-to_sql.ensures, c.params-to_sql-in-None.ensures, c.as_str.ensures.value)) clean inside ready)

pub returns-in-Some-clause-ok : goal.returns-in-Some-clause-ok
unfolding writing
returns-in-Some-clause-ok g c counts clean inside ready =
    IfOk-weaker c.change-in-Some.result _ _
    (λ _ h. counted_at (state g.S.Store c.args.tx.now.conn.now) (state g.S.Store c.change-in-Some.new.tx.conn.now) (repo_text c.args.repo.now) (pos c.args.made) c.args.count counts c.in-Some.count c.in-Some.is
    (ready (omega (arith, clean, c.change-in-Some.ensures.within.survives.clean)) h.was_open) h)
    (c.change-in-Some.ensures.ok (set_made c.in-Some.count.rowid (pos c.args.made)) refl (rw (c.params-to_sql-in-Some.ensures, c.params-to_sql-in-Some-2.ensures, to_z-of_z w64 c.in-Some.count.rowid (search rules))) clean inside ready)
