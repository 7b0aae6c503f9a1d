use Rattle.wire.proofs.Prelude.{◌≡◌, length, reverse, skip_ows}
use Rattle.wire.proofs.ows.trim_back.Given as goal

abbrev pub invariant-bytes : goal.invariant-bytes
invariant-bytes l = skip_ows (reverse l.left) ≡ skip_ows (reverse l.text)

abbrev pub decreases-bytes : goal.decreases-bytes
decreases-bytes l = length l.left
