-- The old database was only read.
use Rattle.moving.specs.Moving.{IsOnlyRead}
use Rattle.moving.proofs.objects.copy_chunks.Given as goal

abbrev pub invariant-loop-n : goal.invariant-loop-n
invariant-loop-n g l = IsOnlyRead g.A.State l.initial.old l.old
