use Rattle.std.proofs.Common.{subst}
use Rattle.control.specs.declared.status.Status.{Status}
use Rattle.server.specs.Commands.{IsReplied}
use Rattle.server.specs.Jobs.{seen_in}
use Rattle.server.proofs.reply.Reply.end.Goals as goal

pub returns-in-Err : goal.returns-in-Err
returns-in-Err g c =
    let sent = c.send_end.ensures in
    (sent.0, sent.1, subst (λ (s : Status). IsReplied c.args.self.now.stream.now s (seen_in sent.0)) c.status_of-status.ensures sent.2)

pub returns : goal.returns
returns g c =
    let sent = c.send_end.ensures in
    (sent.0, sent.1, subst (λ (s : Status). IsReplied c.args.self.now.stream.now s (seen_in sent.0)) c.status_of-status.ensures sent.2)
