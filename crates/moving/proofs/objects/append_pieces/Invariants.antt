-- The old database was only read, and the draft is where it was.
use Rattle.std.proofs.Common.{◌≡◌}
use Rattle.contents.specs.Drafts.{region_of}
use Rattle.moving.specs.Moving.{IsOnlyRead}
use Rattle.moving.proofs.objects.append_pieces.Given as goal

abbrev pub invariant-loop-n : goal.invariant-loop-n
invariant-loop-n g l = record {
  old : IsOnlyRead g.A.State l.initial.old l.old;
  region : region_of l.draft ≡ region_of l.initial.draft;
}
