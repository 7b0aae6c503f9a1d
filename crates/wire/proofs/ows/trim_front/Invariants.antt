use Rattle.wire.proofs.Prelude.{◌≡◌, length, skip_ows}
use Rattle.wire.proofs.ows.trim_front.Given as goal

abbrev pub invariant-bytes : goal.invariant-bytes
invariant-bytes l = skip_ows l.left ≡ skip_ows l.text

abbrev pub decreases-bytes : goal.decreases-bytes
decreases-bytes l = length l.left
