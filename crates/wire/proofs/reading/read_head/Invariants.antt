use Rattle.wire.proofs.Prelude.{◌≡◌, ℕ, List, ◌++◌, ◌+◌, ◌-◌, ◌≤◌, length, Consumes, front}
use Rattle.wire.proofs.reading.read_head.Given as goal

abbrev pub invariant-reading : goal.invariant-reading
invariant-reading g l = record {
  begun : l.buffer.at ≡ 0;
  room : 64 ≤ length l.fields;
  read : List ℕ;
  consumes : Consumes (g.S.Source.left l.fn.source) (g.S.Source.left l.source) read;
  bytes : front l.buffer ≡ front l.fn.buffer ++ read;
  same_reference : g.S.Source.reference l.source ≡ g.S.Source.reference l.fn.source;
  weight : length (front l.buffer) + g.S.Source.budget l.source ≤ length (front l.fn.buffer) + g.S.Source.budget l.fn.source;
  good : g.S.Source.failed l.source ≡ g.S.Source.failed l.fn.source;
}

abbrev pub decreases-reading : goal.decreases-reading
decreases-reading g l = 16384 - length (front l.buffer)
