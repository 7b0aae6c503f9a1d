use Rattle.tables.proofs.Prelude.{pos, Ok, refl, rules, w64, to_z-of_z, repo_text}
use Rattle.std.specs.Prelude.{⊤}
use Rattle.tables.specs.Statements.{with_counts}
use Rattle.tables.proofs.Calls.{transacts_from, does_on}
use Rattle.tables.proofs.restoring.restore_repo.Goals as goal

pub returns : goal.returns
returns g c =
    let step = with_counts (repo_text c.args.repo.now) (pos c.args.made) (pos c.args.used) in
    let begun = c.transaction-tx.result.conn.now in
    let last = c.counts_into.new.tx.conn.now in
    let did = rw (to_z-of_z w64 c.in_ok-used.used (search rules), c.in_ok-used.ensures) at c.in_ok-counts_into.ensures.does in
    let it = transacts_from g.S.Store c.args.conn.now begun last c.finish_with.new.tx.0 c.finish_with.result tt c.transaction-tx.ensures.begun c.finish_with.ensures.finishes step (λ _ _. ⊤)
    (c.if-not-is_autocommit.ensures.settled refl) (g.met.S.Store.settled c.finish_with.new.tx.0.store)
    (λ clean inside ready. ((did.ok clean inside ready).was_open, tt)) (does_on g.S.Store begun last (Ok tt) step did) c.finish_with.ensures.answer in
    search (rules, it)
