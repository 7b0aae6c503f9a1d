use Rattle.machine.proofs.machine.Sockets.talk.Goals as goal

pub returns : goal.returns
returns g c = (_, c.hold-later.ensures)
