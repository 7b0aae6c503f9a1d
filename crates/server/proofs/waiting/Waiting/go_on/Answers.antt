use Rattle.std.proofs.Common.{IfErr}
use Rattle.server.specs.Commands.{IsInspectionFault}
use Rattle.server.proofs.Inspected.{goes_no_more, goes_still}
use Rattle.server.proofs.waiting.Waiting.go_on.Goals.{in-Ok-true, in-Err}
use Rattle.server.proofs.waiting.Waiting.go_on.Goals as goal

pub returns-in-Ok-false : goal.returns-in-Ok-false
returns-in-Ok-false g c =
    goes_still g.M.Machine g.S.State c.args.store.now c.advance-advanced.new.store c.args.machine.now c.send_on.new.machine c.args.self.stream c.args.self.inspection c.advance-advanced.new.inspection c.advance-advanced.result c.send_on.result
    c.send_on.ensures.sent.0 c.send_on.ensures.sent.1 c.send_on.ensures.sent.2 c.send_on.ensures.clean c.advance-advanced.ensures.world

pub returns : goal.returns
returns g c =
    let same : IfErr c.advance-advanced.result IsInspectionFault → IfErr c.match-advanced.ended IsInspectionFault =
    elim c.match-advanced.branch [ in-Ok-true w ↦ λ no. rw w.ended-is tt | in-Err w ↦ λ no. rw w.ended-is (rw w.in-Err.is at no) ] in
    goes_no_more g.M.Machine g.S.State c.args.store.now c.advance-advanced.new.store c.args.machine.now c.end.new.machine c.args.self.stream c.args.self.inspection c.advance-advanced.new.inspection c.advance-advanced.result c.match-advanced.ended
    c.end.ensures.0 same c.end.ensures.1 c.end.ensures.2 c.advance-advanced.ensures.world
