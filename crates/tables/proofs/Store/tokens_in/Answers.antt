use Rattle.tables.proofs.Prelude.{filter, refl, ◌∙◌, repo_text, tokens_in, is_for, shown, with_fact}
use Rattle.tables.specs.Statements.{reading}
use Rattle.tables.proofs.Stores.{looks_reads}
use Rattle.tables.proofs.Store.tokens_in.Goals as goal

pub returns : goal.returns
unfolding reading
returns g c =
    looks_reads g.S.Store _ _ _ c.all_tokens.result _ _ c.in_ok-rows.ensures
    (λ clean ready.
    let it = c.in_ok-rows.ensures.answers clean ready in
    with_fact _ _ c.all_tokens.result it.0 (c.all_tokens.ensures (filter (is_for (repo_text c.args.repo.now)) (shown g.S.Store c.args.self.now).tokens) (c.as_slice.ensures.value ∙ it.1 (tokens_in (repo_text c.args.repo.now)) refl (rw (c.params-to_sql.ensures, c.as_str.ensures.value)))))
