use Rattle.operator.proofs.Prelude.{rules, ◌≡◌, ◌∙◌, length, reads_weaker, repo_text}
use Rattle.operator.proofs.Valid.{valid_length}
use Rattle.operator.proofs.counting.token_count.Goals as goal

pub returns : goal.returns
returns g c =
    let rows = c.in_ok-valid_tokens.field-0.items in
    let count : c.len.result ≡ length rows = search rules in
    reads_weaker g.S.State c.args.store.now c.valid_tokens.new.store _ _
    (λ world laws valid. count ∙ valid_length (repo_text c.args.repo.now) c.args.now world rows valid) c.in_ok-valid_tokens.ensures
