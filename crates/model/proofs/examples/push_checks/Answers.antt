use Rattle.std.proofs.Common.{refl}
use Rattle.model.proofs.OnLiterals.{on_literals}
use Rattle.model.specs.PushExamples.{art_is_closed}
use Rattle.model.proofs.examples.push_checks.Goals as goal

pub returns : goal.returns
unfolding on_literals art_is_closed
returns c = record { lock_blocks_others = (refl, refl, refl); denial_comes_first = (refl, refl, refl) }
