use Rattle.std.proofs.Common.{[], ◌∷◌, refl}
use Rattle.server.specs.Jobs.{idles}
use Rattle.server.proofs.Jobs.{one_idle}
use Rattle.server.proofs.server.shut_if.Goals as goal

pub returns-then-is_full : goal.returns-then-is_full
returns-then-is_full g c = (idles ∷ [], one_idle g.M.Machine c.args.machine.now c.shut.new.self c.shut.ensures, refl)

pub returns-else-is_full : goal.returns-else-is_full
returns-else-is_full g c = ([], refl, refl)
