use Rattle.operator.proofs.Prelude.{reads_weaker, repo_text}
use Rattle.operator.proofs.Valid.{valid_moved}
use Rattle.operator.proofs.listing_tokens.listed_tokens.Goals as goal

pub returns-clause-valid : goal.returns-clause-valid
returns-clause-valid g c =
    reads_weaker g.S.State c.args.store.now c.valid_tokens.new.store _ _
    (λ world laws valid. valid_moved (repo_text c.args.repo.now) c.args.now world _ _ c.sort.ensures.same valid) c.in_ok-rows.ensures
