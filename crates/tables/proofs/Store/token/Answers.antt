use Rattle.tables.proofs.Prelude.{filter, refl, ◌∙◌, token, has_digest, read_token, token_fields, shown, with_fact, first_found}
use Rattle.tables.specs.Statements.{reading}
use Rattle.tables.proofs.Stores.{looks_reads}
use Rattle.tables.proofs.Store.token.Goals as goal

pub returns : goal.returns
unfolding reading
returns g c =
    let passes = has_digest c.args.digest.now in
    let tokens = (shown g.S.Store c.args.self.now).tokens in
    looks_reads g.S.Store _ _ _ c.first_token.result _ _ c.in_ok-rows.ensures
    (λ clean ready.
    let it = c.in_ok-rows.ensures.answers clean ready in
    with_fact _ _ c.first_token.result it.0 (first_found read_token token_fields passes tokens c.first_token.result (c.first_token.ensures (filter passes tokens) (c.as_slice-2.ensures.value ∙ it.1 (token c.args.digest.now) refl (rw (c.params-to_sql.ensures, c.as_slice.ensures))))))
