use Rattle.server.proofs.Jobs.{moment_timed, moment_untimed}
use Rattle.server.proofs.operators.moment_of.Goals as goal

pub returns-in-None-clause-ok : goal.returns-in-None-clause-ok
returns-in-None-clause-ok g c = rw c.in-None.is (moment_timed g.M.Machine c.args.machine.now c.moment.new.self c.moment.result c.moment.ensures.ok)

pub returns-in-None-clause-err : goal.returns-in-None-clause-err
returns-in-None-clause-err g c = moment_untimed g.M.Machine c.args.machine.now c.moment.new.self c.moment.result c.moment.ensures.err
