use Rattle.tables.proofs.Prelude.{◌≡◌, ℤ, Upload, rules, show_upload, sym, ap, ◌∙◌, w64, to_z-of_z}
use Rattle.std.proofs.Common.{to_z}
use Rattle.std.specs.Prelude.{◌+ℤ◌}
use Rattle.tables.proofs.Recounts.{one_more_size}
use Rattle.tables.proofs.discarding.sum_of.Goals as goal

pub loop-row-preserved : goal.loop-row-preserved
loop-row-preserved c us all =
    let added : c.in_ok-sum.sum ≡ to_z w64 c.loop-row.sum-bits +ℤ c.in_ok-size.size = search rules in
    let reads : (u : Upload) → c.row-item.result ≡ show_upload u → c.in_ok-size.size ≡ u.size = λ u is. search rules in
    to_z-of_z w64 c.in_ok-sum.sum (search rules) ∙ added ∙ ap (λ (n : ℤ). n +ℤ c.in_ok-size.size) (c.loop-row.invariant us all)
    ∙ one_more_size c.args.rows.now us c.loop-row.row-index c.row-item.result c.in_ok-size.size all c.loop-row-test.true (search rules) reads
