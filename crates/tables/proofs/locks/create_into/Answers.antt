use Rattle.tables.proofs.Prelude.{pos, find, option_map, ap, sym, subst, ◌∙◌, state, Tables, is_named, tables_in, IsCountOf, read_lock, asked_lock, held, used_up, with_new_lock, after_create, clean_before, goes_on, inside_then}
use Rattle.tables.specs.Steps.{IsOutcomeOf, created}
use Rattle.tables.proofs.Calls.{ready_after, steps_then, same_steps, does_on, does_then, does_as}
use Rattle.tables.proofs.Creating.{step_by, outcome_held, outcome_free}
use Rattle.tables.proofs.locks.create_into.Goals as goal

pub returns-in-Some-clause-value : goal.returns-in-Some-clause-value
unfolding IsOutcomeOf
returns-in-Some-clause-value g c clean inside ready =
    let found = c.in_ok-row.ensures.value clean inside ready in
    (found.0, sym (outcome_held (asked_lock c.args.lock.now) (tables_in (state g.S.Store c.args.tx.now.conn.now)) c.in-Some.row (ap (option_map read_lock) (sym c.in-Some.is) ∙ found.1)))

pub returns-in-Some-clause-does : goal.returns-in-Some-clause-does
returns-in-Some-clause-does g c =
    let lock = asked_lock c.args.lock.now in
    let begun = c.args.tx.now.conn.now in
    let last = c.held_in.new.tx.conn.now in
    does_as g.S.Store begun last _ (λ t. t) (after_create lock)
    (λ clean inside ready.
    let found = c.in_ok-row.ensures.value clean inside ready in
    let t = tables_in (state g.S.Store begun) in
    step_by lock t (held (read_lock c.in-Some.row)) (outcome_held lock t c.in-Some.row (ap (option_map read_lock) (sym c.in-Some.is) ∙ found.1)))
    (does_on g.S.Store begun last _ (λ t. t) c.in_ok-row.ensures.does)

pub returns-in_default-next_id-clause-value : goal.returns-in_default-next_id-clause-value
unfolding IsOutcomeOf
returns-in_default-next_id-clause-value g c clean inside ready =
    let row = c.in_ok-row.ensures in
    let count = c.in_ok-count.ensures in
    let is = outcome_free g.S.Store (asked_lock c.args.lock.now) c.args.tx.now.conn.now c.held_in.new.tx.conn.now c.count_in.new.tx.conn.now _ _ used_up c.in_default.is row.value row.does count.value count.does c.in_default-next_id.ensures clean inside ready in
    (is.0, sym is.1)

pub returns-in_default-next_id-clause-does : goal.returns-in_default-next_id-clause-does
returns-in_default-next_id-clause-does g c =
    let lock = asked_lock c.args.lock.now in
    let begun = c.args.tx.now.conn.now in
    let after = c.held_in.new.tx.conn.now in
    let last = c.count_in.new.tx.conn.now in
    let row = c.in_ok-row.ensures in
    let count = c.in_ok-count.ensures in
    does_as g.S.Store begun last _ (λ t. t) (after_create lock)
    (λ clean inside ready. step_by lock (tables_in (state g.S.Store begun)) used_up (outcome_free g.S.Store lock begun after last _ _ used_up c.in_default.is row.value row.does count.value count.does c.in_default-next_id.ensures clean inside ready).1)
    (does_then g.S.Store begun after last _ (λ t. t) (λ t. t) row.does (does_on g.S.Store after last _ (λ t. t) count.does))

pub returns-clause-value : goal.returns-clause-value
unfolding IsOutcomeOf
returns-clause-value g c clean inside ready =
    let counted = c.count_in.new.tx.conn.now in
    let row = c.in_ok-row.ensures in
    let count = c.in_ok-count.ensures in
    let late = clean_before g.S.Store counted c.keep_into.new.tx.conn.now _ c.in_ok-keep_into.ensures.within clean in
    let is = outcome_free g.S.Store (asked_lock c.args.lock.now) c.args.tx.now.conn.now c.held_in.new.tx.conn.now counted _ _ (created (pos c.in-Some-next_id.id)) c.in_default.is row.value row.does count.value count.does c.in-Some-next_id.ensures late inside ready in
    (is.0, sym is.1)

pub returns-clause-does : goal.returns-clause-does
returns-clause-does g c =
    let lock = asked_lock c.args.lock.now in
    let begun = c.args.tx.now.conn.now in
    let after = c.held_in.new.tx.conn.now in
    let counted = c.count_in.new.tx.conn.now in
    let last = c.keep_into.new.tx.conn.now in
    let old = state g.S.Store begun in
    let mid = state g.S.Store after in
    let late = state g.S.Store counted in
    let row = c.in_ok-row.ensures in
    let count = c.in_ok-count.ensures in
    let keep = c.in_ok-keep_into.ensures in
    let outcome = created (pos c.in-Some-next_id.id) in
    let made = with_new_lock lock (pos c.in-Some-next_id.id) in
    let both = does_then g.S.Store begun after counted _ (λ t. t) (λ t. t) row.does count.does in
    record {
      within = inside_then g.S.Store begun counted last _ both.within (goes_on g.S.Store counted last _ keep.within);
      ok = λ clean inside ready.
          let clean_late = clean_before g.S.Store counted last _ keep.within clean in
          let clean_mid = clean_before g.S.Store after counted _ count.does.within clean_late in
          let inside_mid = row.does.within.inside clean_mid inside in
          let ready_mid = ready_after (λ t. t) old mid (row.does.ok clean_mid inside ready) in
          let counts = (count.value clean_late inside_mid ready_mid).1 in
          let second = count.does.ok clean_late inside_mid ready_mid in
          let still = subst (λ (t : Tables). IsCountOf c.in_ok-count.count (find (is_named lock.repo) t.repos)) (sym second.tables) counts in
          let step = both.ok clean_late inside ready in
          let third = keep.ok still clean (both.within.inside clean_late inside) (ready_after (λ t. t) old late step) in
          same_steps made (after_create lock) old (state g.S.Store last)
          (step_by lock (tables_in old) outcome (outcome_free g.S.Store lock begun after counted _ _ outcome c.in_default.is row.value row.does count.value count.does c.in-Some-next_id.ensures clean_late inside ready).1)
          (steps_then (λ t. t) made old late (state g.S.Store last) step third);
    }
