use Rattle.tables.proofs.Prelude.{arith, ℕ, pos, find, sym, subst, state, repo_text, HasCleanDisk, Tables, Steps, is_named, IsCountOf, asked_lock, with_made}
use Rattle.tables.specs.Statements.{with_lock}
use Rattle.tables.specs.Steps.{with_new_lock}
use Rattle.tables.proofs.Calls.{steps_then, ready_after}
use Rattle.tables.proofs.locks.keep_into.Goals as goal

pub returns-clause-ok : goal.returns-clause-ok
unfolding with_new_lock with_lock
returns-clause-ok g c counts clean inside ready =
    let old = state g.S.Store c.args.tx.now.conn.now in
    let mid = state g.S.Store c.lock_into.new.tx.conn.now in
    let new = state g.S.Store c.set_count.new.tx.conn.now in
    let clean_mid : HasCleanDisk mid = omega (arith, clean, c.set_count.ensures.within.survives.clean) in
    let keep = with_lock record (asked_lock c.args.lock.now) { id = pos c.args.id } in
    let first = c.in_ok-lock_into.ensures.does.ok clean_mid inside ready in
    let still = subst (λ (t : Tables). IsCountOf c.args.count (find (is_named (repo_text c.args.lock.now.repo.now)) t.repos)) (sym first.tables) counts in
    steps_then keep (with_made (repo_text c.args.lock.now.repo.now) (pos c.args.id)) old mid new first
    (subst (λ (n : ℕ). Steps (with_made (repo_text c.args.lock.now.repo.now) (pos n)) mid new) c.get.ensures.value
    (c.in_ok-set_count.ensures.ok still clean (c.in_ok-lock_into.ensures.does.within.inside clean_mid inside) (ready_after keep old mid first)))
