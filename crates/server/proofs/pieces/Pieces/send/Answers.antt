use Rattle.std.proofs.Common.{[], ◌∷◌, refl}
use Rattle.std.proofs.lemmas.Result.{err_from_is_err_and}
use Rattle.machine.specs.Observations.{sent}
use Rattle.server.specs.Jobs.{idles, observes}
use Rattle.server.proofs.Jobs.{one_idle, one_seen}
use Rattle.server.proofs.pieces.Pieces.send.Goals as goal

pub returns-in_err-send-clause-err : goal.returns-in_err-send-clause-err
returns-in_err-send-clause-err g c =
    let p = err_from_is_err_and c.from_residual.result c.from_residual.ensures.1 in
    rw p.1 (idles ∷ [], one_idle g.M.Machine c.args.machine.now c.send.new.self c.in_err-send.ensures.err, refl)

pub returns-clause-ok : goal.returns-clause-ok
returns-clause-ok g c =
    let pieces = sent c.args.operator.now c.args.self.now.bytes.items in
    (observes pieces ∷ [], one_seen g.M.Machine c.args.machine.now c.send.new.self pieces (rw c.as_slice.ensures.value at c.in_ok-send.ensures.ok), (c.args.self.now.bytes.items, c.args.self.now.are_pieces, refl))
