use Rattle.wire.proofs.Prelude.{rules, arith, ◌++◌, ◌-◌, ◌∙◌, sym, subst, take, drop, length, List, ℕ, Moves}
use Rattle.wire.proofs.Buffers.{read_at}
use Rattle.wire.proofs.Streams.{moves_more, same_head_more}
use Rattle.wire.proofs.connection.Conn.fill_body.Goals as goal

pub pieces-preserved : goal.pieces-preserved
pieces-preserved g c =
    let i = c.pieces.invariant in
    let e = c.in-Ok.ensures in
    let old = c.args.self.now in
    let new = c.take_body.new.self in
    let given = take c.pieces.at c.pieces.body in
    let next = take c.in-Ok.count c.take_body.new.piece in
    let back = drop (length c.pieces.body - c.pieces.at) (drop c.pieces.at c.pieces.body) in
    let joined = read_at c.pieces.body c.take_body.new.piece back c.pieces.at c.in-Ok.count i.within e.within.0 in record {
      within = search rules;
      read = i.read ++ e.bytes.0;
      moves = subst (λ (l : List ℕ). Moves old new (i.read ++ e.bytes.0) l) (sym joined) (moves_more old c.pieces.self new i.read e.bytes.0 given next i.moves e.bytes.1);
      size = omega (arith, e.within.1, i.size);
      room = search rules;
      good = e.good (λ bad. cc) ∙ i.good;
      same_head = same_head_more old c.pieces.self new i.same_head e.same_head;
    }
