use Rattle.tables.proofs.Prelude.{◌≡◌, length, filter, pos, Ok, refl, rules, repo_text, without_lock}
use Rattle.tables.specs.Statements.{has_id}
use Rattle.tables.proofs.Calls.{transacts_from, does_on}
use Rattle.tables.proofs.locks.remove.Goals as goal

pub returns : goal.returns
returns g c =
    let it = transacts_from g.S.Store c.args.conn.now c.transaction-tx.result.conn.now c.remove_into.new.tx.conn.now c.finish_with.new.tx.0 c.finish_with.result c.in_ok-removed.removed c.transaction-tx.ensures.begun c.finish_with.ensures.finishes
    (without_lock (repo_text c.args.repo.now) (pos c.args.id)) (λ t n. n ≡ length (filter (has_id (repo_text c.args.repo.now) (pos c.args.id)) t.locks))
    (c.if-not-is_autocommit.ensures.settled refl) (g.met.S.Store.settled c.finish_with.new.tx.0.store)
    c.in_ok-removed.ensures.count (does_on g.S.Store c.transaction-tx.result.conn.now c.remove_into.new.tx.conn.now (Ok c.in_ok-removed.removed) (without_lock (repo_text c.args.repo.now) (pos c.args.id)) c.in_ok-removed.ensures.does) c.finish_with.ensures.answer in
    search (rules, it)
