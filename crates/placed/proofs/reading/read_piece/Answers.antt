use Rattle.placed.proofs.Prelude.{length, rules}
use Rattle.placed.proofs.PieceRead.{piece_read}
use Rattle.placed.proofs.reading.read_piece.Goals as goal

pub returns-in-Ok-clause-read : goal.returns-in-Ok-clause-read
returns-in-Ok-clause-read g c clean content has =
    piece_read content c.read.new.buf _ c.resize.new.self.len (length c.deref_mut.result.now) _ c.args.n (search rules)
    (search rules) (search rules) (search rules) (c.in-Ok.ensures.content clean content has)
