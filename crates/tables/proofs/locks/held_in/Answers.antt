use Rattle.tables.proofs.Prelude.{filter, refl, ◌∙◌, state, lock_at, is_at, read_lock, lock_fields, asked_lock, tables_in, with_fact, first_found}
use Rattle.tables.specs.Statements.{reading}
use Rattle.tables.proofs.Calls.{does_on}
use Rattle.tables.proofs.locks.held_in.Goals as goal

pub returns-clause-value : goal.returns-clause-value
unfolding reading
returns-clause-value g c clean inside ready =
    let lock = asked_lock c.args.lock.now in
    let passes = is_at lock.repo lock.ref_name lock.path in
    let locks = (tables_in (state g.S.Store c.args.tx.now.conn.now)).locks in
    let it = c.in_ok-rows.ensures.rows clean inside ready in
    with_fact _ _ c.first_lock.result it.0 (first_found read_lock lock_fields passes locks c.first_lock.result
    (c.first_lock.ensures (filter passes locks) (c.as_slice.ensures.value ∙ it.1 (lock_at lock.repo lock.ref_name lock.path) refl (rw (c.params-to_sql.ensures, c.params-to_sql-2.ensures, c.params-to_sql-3.ensures, c.as_str.ensures.value, c.as_str-2.ensures.value, c.as_str-3.ensures.value)))))

pub returns-clause-does : goal.returns-clause-does
unfolding reading
returns-clause-does g c =
    let lock = asked_lock c.args.lock.now in
    does_on g.S.Store c.args.tx.now.conn.now c.select.new.tx.conn.now c.first_lock.result (λ t. t) record { within = c.in_ok-rows.ensures.within; ok = c.in_ok-rows.ensures.same (lock_at lock.repo lock.ref_name lock.path) refl }
