use Rattle.std.proofs.lemmas.Result.{IfOk-weaker, on_err_weaker}
use Rattle.wire.proofs.Handed.{handed_piece, handed_none}
use Rattle.wire.proofs.inflow.InflowBody.piece.Goals as goal

pub returns-clause-bytes : goal.returns-clause-bytes
returns-clause-bytes g c =
    let e = c.body_piece.ensures in
    IfOk-weaker c.body_piece.result _ _ (λ n hands. (e.same_reference, hands))
    (handed_piece c.args.self.now.conn.now c.body_piece.new.self.conn.now c.body_piece.new.piece c.body_piece.result e.within e.bytes e.same_head)

pub returns-clause-err : goal.returns-clause-err
returns-clause-err g c =
    let e = c.body_piece.ensures in
    on_err_weaker c.body_piece.result
    (λ err. ((e.same_reference, handed_none c.args.self.now.conn.now c.body_piece.new.self.conn.now err.0 err.1 e.same_head), err.1, err.2, err.3))
    e.err
