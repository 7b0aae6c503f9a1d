use Rattle.tables.proofs.Prelude.{filter, slice_get, refl, ap, ◌∙◌, slice_get-filter, repo_text, made_by, is_named, made_in, shown}
use Rattle.tables.specs.Statements.{reading}
use Rattle.tables.proofs.Stores.{looks_reads}
use Rattle.tables.proofs.Store.made.Goals as goal

pub returns : goal.returns
unfolding reading
returns g c =
    let passes = is_named (repo_text c.args.repo.now) in
    let repos = (shown g.S.Store c.args.self.now).repos in
    looks_reads g.S.Store _ _ _ _ _ _ c.in_ok-rows.ensures
    (λ clean ready.
    let it = c.in_ok-rows.ensures.answers clean ready in (
      it.0,
      c.made_so_far.ensures (slice_get (filter passes repos) 0)
          (c.in_ok-first_count.ensures (filter passes repos) (c.as_slice.ensures.value ∙ it.1 (made_by (repo_text c.args.repo.now)) refl (rw (c.params-to_sql.ensures, c.as_str.ensures.value))))
          ∙ ap made_in (slice_get-filter passes repos),
    ))
