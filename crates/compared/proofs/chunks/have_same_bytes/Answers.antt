use Rattle.std.proofs.Common.{sym, ◌∙◌}
use Rattle.std.proofs.lemmas.Bool.{true≢false}
use Rattle.std.proofs.lemmas.List.{get_or_default}
use Rattle.compared.proofs.Comparisons.{differs_here, same_all, same_next}
use Rattle.compared.proofs.chunks.have_same_bytes.Goals as goal

pub returns-then-not-has_same_bytes-clause-same : goal.returns-then-not-has_same_bytes-clause-same
returns-then-not-has_same_bytes-clause-same g c =
    differs_here g.A.State g.B.State c.args.keys.now c.loop-key.key-index _ _ _ _ _ _ _ _ _ c.loop-key-test.true
    (get_or_default c.args.keys.now c.loop-key.key-index _ _ c.loop-key-test.true)
    c.loop-key.invariant c.in_ok-ours.ensures c.in_ok-theirs.ensures
    (λ same. true≢false (sym (c.has_same_bytes.ensures.1 same) ∙ c.if-not-has_same_bytes.true))

pub loop-key-preserved : goal.loop-key-preserved
loop-key-preserved g c =
    same_next g.A.State g.B.State c.args.keys.now c.loop-key.key-index _ _ _ _ _ _ _ _ _ c.loop-key-test.true
    (get_or_default c.args.keys.now c.loop-key.key-index _ _ c.loop-key-test.true)
    c.loop-key.invariant c.in_ok-ours.ensures c.in_ok-theirs.ensures
    (c.has_same_bytes.ensures.0 c.if-not-has_same_bytes.false)

pub returns-clause-same : goal.returns-clause-same
returns-clause-same g c = same_all g.A.State g.B.State c.args.keys.now c.loop-key.key-index _ _ _ _ c.loop-key-test.false c.loop-key.invariant
