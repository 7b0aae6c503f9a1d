use Rattle.tables.proofs.Prelude.{◌≡◌, w64, rules, find, ap, sym, subst, ◌∙◌, to_z-of_z, state, Tables, Some, is_named, tables_in, repo_text, objects_of, IsTotalOf, with_used, clean_before, goes_on, inside_then}
use Rattle.tables.specs.Discarding.{sizes_sum, recounted}
use Rattle.tables.proofs.Calls.{ready_after, steps_then, same_steps, does_then}
use Rattle.tables.proofs.discarding.recount_into.Goals as goal

pub returns-clause-does : goal.returns-clause-does
unfolding recounted
returns-clause-does g c =
    let repo = repo_text c.args.repo.now in
    let begun = c.args.tx.now.conn.now in
    let summed = c.sum_in.new.tx.conn.now in
    let counted = c.total_in.new.tx.conn.now in
    let last = c.set_used.new.tx.conn.now in
    let old = state g.S.Store begun in
    let late = state g.S.Store counted in
    let sum = c.in_ok-sum.ensures in
    let total = c.in_ok-total.ensures in
    let third = c.in_ok-set_used.ensures in
    let both = does_then g.S.Store begun summed counted _ (λ t. t) (λ t. t) sum.does total.does in
    record {
      within = inside_then g.S.Store begun counted last _ both.within (goes_on g.S.Store counted last _ third.within);
      ok = λ clean inside ready.
          let clean_late = clean_before g.S.Store counted last _ third.within clean in
          let clean_mid = clean_before g.S.Store summed counted _ total.does.within clean_late in
          let first = sum.does.ok clean_mid inside ready in
          let inside_mid = sum.does.within.inside clean_mid inside in
          let found = (total.value clean_late inside_mid (ready_after (λ t. t) old (state g.S.Store summed) first)).1 in
          let step = both.ok clean_late inside ready in
          let still = subst (λ (t : Tables). IsTotalOf c.in_ok-total.total (find (is_named repo) t.repos)) (first.tables ∙ sym step.tables) found in
          let is : c.in_ok-sum.sum ≡ sizes_sum (objects_of (Some repo) (tables_in old)) = (sum.value clean_mid inside ready).1 in
          same_steps (with_used repo c.in_ok-sum.sum) (recounted repo) old (state g.S.Store last) (ap (λ n. with_used repo n (tables_in old)) is)
          (steps_then (λ t. t) (with_used repo c.in_ok-sum.sum) old late (state g.S.Store last) step
          (rw (to_z-of_z w64 c.in_ok-sum.sum (search rules)) at (third.ok still clean (both.within.inside clean_late inside) (ready_after (λ t. t) old late step))));
    }
