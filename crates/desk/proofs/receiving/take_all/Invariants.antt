use Rattle.desk.proofs.Prelude.{◌≡◌, ◌<◌, ℕ, List, length, From, HasRead, Takes}
use Rattle.desk.proofs.Arriving.{taken}
use Rattle.desk.proofs.receiving.take_all.Given as goal

abbrev pub invariant-pieces : goal.invariant-pieces
invariant-pieces g l = record {
  bytes : List ℕ;
  read : HasRead g.B.Body l.fn.content l.content bytes;
  good : g.B.Body.failed l.content ≡ g.B.Body.failed l.fn.content;
  room : 0 < length l.buffer;
  upload : l.intake.upload ≡ l.fn.intake.upload;
  takes : From g.S.State l.fn.store l.store (Takes g.S.State l.fn.store l.fn.intake l.store l.intake bytes taken);
}

abbrev pub decreases-pieces : goal.decreases-pieces
decreases-pieces g l = g.B.Body.size l.content
