use Rattle.operator.proofs.Prelude.{sym, subst, reads_weaker, repo_text}
use Rattle.operator.specs.Tokens.{AreValid}
use Rattle.operator.proofs.Valid.{valid_found}
use Rattle.operator.proofs.listing_tokens.valid_tokens.Goals as goal

pub returns : goal.returns
returns g c =
    let repo = repo_text c.args.repo.now in
    reads_weaker g.S.State c.args.store.now c.all.new.store _ _
    (λ world laws found. subst (AreValid repo c.args.now world) (sym c.keep_valid.ensures) (valid_found repo c.args.now world c.in_ok-rows.rows.items found)) c.in_ok-rows.ensures
