use Rattle.tables.proofs.Prelude.{◌≡◌, find, is_some, refl, rules, repo_text, is_object}
use Rattle.tables.specs.Retiring.{after_retire}
use Rattle.tables.proofs.Calls.{transacts_from}
use Rattle.tables.proofs.retiring.retire.Goals as goal

pub returns : goal.returns
returns g c =
    let it = transacts_from g.S.Store c.args.conn.now c.transaction-tx.result.conn.now c.retire_into.new.tx.conn.now c.finish_with.new.tx.0 c.finish_with.result c.in_ok-removed.removed c.transaction-tx.ensures.begun c.finish_with.ensures.finishes
    (after_retire (repo_text c.args.repo.now) c.args.oid.now) (λ t removed. removed ≡ is_some (find (is_object (repo_text c.args.repo.now) c.args.oid.now) t.uploads))
    (c.if-not-is_autocommit.ensures.settled refl) (g.met.S.Store.settled c.finish_with.new.tx.0.store)
    c.in_ok-removed.ensures.value c.in_ok-removed.ensures.does c.finish_with.ensures.answer in
    search (rules, it)
