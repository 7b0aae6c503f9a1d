use Rattle.tables.proofs.Prelude.{◌≡◌, w64, rules, pos, find, ap, sym, subst, to_z-of_z, state, Tables, is_named, tables_in, repo_text, used_of, upload_number, IsTotalOf, with_used, clean_before, goes_on, inside_then}
use Rattle.std.specs.Prelude.{◌-ℤ◌}
use Rattle.tables.specs.Statements.{without_row, without_chunks}
use Rattle.tables.specs.Staging.{without_upload}
use Rattle.tables.proofs.Calls.{ready_after, steps_then, same_steps, does_then}
use Rattle.tables.proofs.retiring.object_out.Goals as goal

pub returns-clause-does : goal.returns-clause-does
unfolding without_upload without_row without_chunks
returns-clause-does g c =
    let repo = repo_text c.args.repo.now in
    let id = upload_number c.args.object.id in
    let begun = c.args.tx.now.conn.now in
    let counted = c.total_in.new.tx.conn.now in
    let out = c.upload_out.new.tx.conn.now in
    let last = c.set_used.new.tx.conn.now in
    let old = state g.S.Store begun in
    let late = state g.S.Store out in
    let total = c.in_ok-total.ensures in
    let second = c.in_ok-upload_out.ensures.does in
    let third = c.in_ok-set_used.ensures in
    let both = does_then g.S.Store begun counted out _ (λ t. t) (without_upload id) total.does second in
    record {
      within = inside_then g.S.Store begun out last _ both.within (goes_on g.S.Store out last _ third.within);
      ok = λ clean inside ready.
          let clean_late = clean_before g.S.Store out last _ third.within clean in
          let clean_mid = clean_before g.S.Store counted out _ second.within clean_late in
          let totals = (total.value clean_mid inside ready).1 in
          let step = both.ok clean_late inside ready in
          let still = subst (λ (t : Tables). IsTotalOf c.in_ok-total.total (find (is_named repo) t.repos)) (sym step.tables) totals in
          let used : c.in-Some.used ≡ used_of repo (tables_in old) -ℤ pos c.args.object.size = c.in-Some.ensures _ totals in
          same_steps (λ t. with_used repo c.in-Some.used (without_upload id t)) (λ t. with_used repo (used_of repo t -ℤ pos c.args.object.size) (without_upload id t)) old (state g.S.Store last) (ap (λ n. with_used repo n (without_upload id (tables_in old))) used)
          (steps_then (without_upload id) (with_used repo c.in-Some.used) old late (state g.S.Store last) step
          (rw (to_z-of_z w64 c.in-Some.used (search rules)) at (third.ok still clean (both.within.inside clean_late inside) (ready_after (without_upload id) old late step))));
    }
