use Rattle.std.proofs.Common.{arith, refl}
use Rattle.compared.proofs.Paired.{paired_next}
use Rattle.compared.proofs.rows.are_same.Goals as goal

pub loop-i-init : goal.loop-i-init
loop-i-init g c = λ k d e less. absurd (omega (arith, less))

pub loop-i-preserved : goal.loop-i-preserved
loop-i-preserved g c =
    paired_next g.T.ListedRow.same_columns c.args.old.now c.args.new.now c.loop-i.i c.index-old-i.result c.index-new-i.result c.loop-i-test.true c.if-old-new.false
    c.index-old-i.is c.index-new-i.is (c.has_same_columns.ensures.0 c.if-not-has_same_columns.false) c.loop-i.invariant

pub returns : goal.returns
returns g c = let end = c.loop-i-test.false in
    (λ _. record { lengths = c.if-old-new.false; each = λ i d e less. c.loop-i.invariant i d e (omega (arith, less, end)) }, λ _. refl)
