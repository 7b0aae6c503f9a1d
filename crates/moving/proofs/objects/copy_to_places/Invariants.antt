-- The old database was only read.
use Rattle.moving.specs.Moving.{IsOnlyRead}
use Rattle.moving.proofs.objects.copy_to_places.Given as goal

abbrev pub invariant-loop-index : goal.invariant-loop-index
invariant-loop-index g l = IsOnlyRead g.A.State l.initial.old l.old
