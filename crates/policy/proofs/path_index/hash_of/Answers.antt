use Rattle.policy.proofs.Prelude.{◌∙◌, sym, ap, get_or, ℕ}
use Rattle.policy.specs.Index.{mixed}
use Rattle.policy.proofs.Indexed.{hashed_more}
use Rattle.policy.proofs.path_index.hash_of.Goals as goal

pub loop-byte-preserved : goal.loop-byte-preserved
loop-byte-preserved c =
    let i = c.loop-byte.byte-index in
    let text = c.args.text.now in
    c.mixed-hash.ensures ∙ ap (λ (h : ℕ). mixed h (get_or text i 0)) c.loop-byte.invariant
    ∙ sym (hashed_more text i 0 c.loop-byte-test.true)
