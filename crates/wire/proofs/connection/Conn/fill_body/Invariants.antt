use Rattle.wire.proofs.Prelude.{◌≡◌, ℕ, ◌+◌, ◌≤◌, List, length, take, Moves, SameHead}
use Rattle.wire.proofs.connection.Conn.fill_body.Given as goal

abbrev pub invariant-pieces : goal.invariant-pieces
invariant-pieces g l = record {
  within : l.at ≤ length l.body;
  read : List ℕ;
  moves : Moves l.fn.self l.self read (take l.at l.body);
  size : l.at + l.self.left ≡ l.fn.self.left;
  room : length l.body ≡ l.fn.self.left;
  good : g.R.Source.failed l.self.source ≡ g.R.Source.failed l.fn.self.source;
  same_head : SameHead l.fn.self l.self;
}

abbrev pub decreases-pieces : goal.decreases-pieces
decreases-pieces g l = l.self.left
