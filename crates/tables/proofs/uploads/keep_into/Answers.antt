use Rattle.tables.proofs.Prelude.{◌≡◌, ◌+ℤ◌, w64, rules, find, ap, sym, subst, to_z-of_z, state, Tables, is_named, tables_in, used_of, begun_as, IsTotalOf, with_used, clean_before, goes_on, inside_then}
use Rattle.tables.specs.Statements.{with_done}
use Rattle.tables.specs.Staging.{with_kept}
use Rattle.tables.proofs.Calls.{ready_after, steps_then, same_steps, does_then}
use Rattle.tables.proofs.uploads.keep_into.Goals as goal

pub returns-clause-does : goal.returns-clause-does
unfolding with_kept with_done
returns-clause-does g c =
    let u = begun_as c.args.upload.now in
    let begun = c.args.tx.now.conn.now in
    let counted = c.total_in.new.tx.conn.now in
    let done = c.done_into.new.tx.conn.now in
    let last = c.set_used.new.tx.conn.now in
    let old = state g.S.Store begun in
    let late = state g.S.Store done in
    let total = c.in_ok-total.ensures in
    let second = c.in_ok-done_into.ensures.does in
    let third = c.in_ok-set_used.ensures in
    let both = does_then g.S.Store begun counted done _ (λ t. t) (with_done u.id) total.does second in
    record {
      within = inside_then g.S.Store begun done last _ both.within (goes_on g.S.Store done last _ third.within);
      ok = λ clean inside ready.
          let clean_late = clean_before g.S.Store done last _ third.within clean in
          let clean_mid = clean_before g.S.Store counted done _ second.within clean_late in
          let totals = (total.value clean_mid inside ready).1 in
          let step = both.ok clean_late inside ready in
          let still = subst (λ (t : Tables). IsTotalOf c.in_ok-total.total (find (is_named u.repo) t.repos)) (sym step.tables) totals in
          let used : c.in-Some.used ≡ used_of u.repo (tables_in old) +ℤ u.size = c.in-Some.ensures _ totals in
          same_steps (λ t. with_used u.repo c.in-Some.used (with_done u.id t)) (with_kept u) old (state g.S.Store last) (ap (λ n. with_used u.repo n (with_done u.id (tables_in old))) used)
          (steps_then (with_done u.id) (with_used u.repo c.in-Some.used) old late (state g.S.Store last) step
          (rw (to_z-of_z w64 c.in-Some.used (search rules)) at (third.ok still clean (both.within.inside clean_late inside) (ready_after (with_done u.id) old late step))));
    }
