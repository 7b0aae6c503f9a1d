use Rattle.desk.proofs.Prelude.{◌∙◌, map, ap, repo_text, user_text}
use Rattle.refinement.proofs.ReadOnly.{reads_weaker}
use Rattle.desk.proofs.Viewed.{tokens_shown}
use Rattle.desk.specs.Views.{own_of}
use Rattle.desk.proofs.viewing.own_tokens.Goals as goal

pub returns : goal.returns
returns g c =
    let sorted = c.in_ok-sort_by_digest.ensures in
    reads_weaker g.S.State c.args.store.now c.of.new.store _ _
    (λ world laws found.
    tokens_shown world (user_text c.args.user.now) (repo_text c.args.repo.now) c.in_ok-rows.rows.items c.in_ok-tokens.tokens.items c.sort_by_digest.new.tokens.items laws found
    (c.in_ok-tokens.ensures ∙ ap (map own_of) c.as_slice.ensures.value) sorted.same sorted.sorted)
    c.in_ok-rows.ensures
