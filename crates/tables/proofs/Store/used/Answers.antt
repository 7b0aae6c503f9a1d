use Rattle.tables.proofs.Prelude.{filter, slice_get, refl, ap, w64, ◌∙◌, rules, to_z-of_z, slice_get-filter, IfOk-weaker, repo_text, used_by, is_named, used_in, shown}
use Rattle.tables.specs.Statements.{reading}
use Rattle.tables.proofs.Stores.{looks_reads}
use Rattle.tables.proofs.Store.used.Goals as goal

pub returns : goal.returns
unfolding reading
returns g c =
    let repo = repo_text c.args.repo.now in
    let repos = (shown g.S.Store c.args.self.now).repos in
    looks_reads g.S.Store _ _ _ c.unsigned.result _ _ c.in_ok-rows.ensures
    (λ clean ready.
    let it = c.in_ok-rows.ensures.answers clean ready in
    let found = c.in_ok-first_total.ensures (filter (is_named repo) repos) (c.as_slice.ensures.value ∙ it.1 (used_by repo) refl (rw (c.params-to_sql.ensures, c.as_str.ensures.value))) in
    IfOk-weaker c.unsigned.result _ _ (λ _ is. (it.0, is ∙ to_z-of_z w64 c.used_so_far.result (search rules) ∙ c.used_so_far.ensures (slice_get (filter (is_named repo) repos) 0) found ∙ ap used_in (slice_get-filter (is_named repo) repos))) c.unsigned.ensures)
