use Rattle.std.proofs.Common.{refl}
use Rattle.server.proofs.foreseeing.GivenMessage.task.Goals as goal

pub returns : goal.returns
returns c = (_, refl, (refl, refl, refl, refl, (c.to_desk.ensures, refl)))
