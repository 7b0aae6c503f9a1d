use Rattle.operator.proofs.Prelude.{rules, ◌≡◌, ◌∙◌, length, reads_weaker, repo_text}
use Rattle.operator.proofs.Counted.{objects_length}
use Rattle.operator.proofs.counting.object_count.Goals as goal

pub returns : goal.returns
returns g c =
    let rows = c.in_ok-all.field-0.items in
    let count : c.len.result ≡ length rows = search rules in
    reads_weaker g.S.State c.args.store.now c.all.new.store _ _
    (λ world laws found. count ∙ objects_length g.S.State world c.all.new.store (repo_text c.args.repo.now) rows found) c.in_ok-all.ensures
