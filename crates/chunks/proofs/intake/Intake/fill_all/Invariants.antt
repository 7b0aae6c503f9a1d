use Rattle.std.proofs.Common.{◌≤◌, ◌<◌, ◌-◌, length, take}
use Rattle.chunks.specs.Intakes.{chunk_size, KeepsCount, Advances, KeepsWithin}
use Rattle.chunks.proofs.intake.Intake.fill_all.Given as goal

abbrev pub invariant-pieces : goal.invariant-pieces
invariant-pieces g l = record {
  within : l.at ≤ length l.piece;
  short : length l.self.last.items < chunk_size;
  same : KeepsCount l.fn.self l.self;
  advances : Advances g.S.State l.fn.store l.fn.self l.store l.self (take l.at l.piece);
  keeps : KeepsWithin g.S.State l.fn.store l.fn.self l.store (length l.piece);
}

abbrev pub decreases-pieces : goal.decreases-pieces
decreases-pieces g l = length l.piece - l.at
