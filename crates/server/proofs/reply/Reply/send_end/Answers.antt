use Rattle.std.proofs.Common.{[], ◌∷◌, inl, inr, refl}
use Rattle.server.proofs.Jobs.{ended_or_not}
use Rattle.server.proofs.reply.Reply.send_end.Goals as goal

pub returns-in_err-push_errors : goal.returns-in_err-push_errors
returns-in_err-push_errors g c = ([], refl, inl refl)

pub returns-in_err-send : goal.returns-in_err-send
returns-in_err-send g c = (c.in_err-send.ensures.err.0, c.in_err-send.ensures.err.1, inl c.in_err-send.ensures.err.2)

pub returns : goal.returns
returns g c =
    let pieces = c.in_ok-send.ensures.ok in
    ended_or_not g.M.Machine c.args.machine.now c.send.new.machine c.end_reply.new.self c.end_reply.result c.args.self.now.stream.now c.args.status pieces.0 pieces.1 pieces.2 (rw c.code.ensures at c.end_reply.ensures.ok) c.end_reply.ensures.err
