use Rattle.operator.proofs.Prelude.{rules, ◌≡◌, ◌∙◌, ap, sym, length, reads_weaker, repo_text}
use Rattle.std.proofs.lemmas.List.{length-map}
use Rattle.locks.specs.Finding.{lock_seen}
use Rattle.operator.proofs.counting.lock_count.Goals as goal

pub returns : goal.returns
returns g c =
    let rows = c.in_ok-all.field-0.items in
    let count : c.len.result ≡ length rows = search rules in
    reads_weaker g.S.State c.args.store.now c.all.new.store _ _
    (λ world laws found. count ∙ sym (length-map rows (lock_seen (repo_text c.args.repo.now))) ∙ ap length found) c.in_ok-all.ensures
