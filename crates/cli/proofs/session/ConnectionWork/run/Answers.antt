use Rattle.std.proofs.Common.{refl}
use Rattle.refinement.proofs.Leading.{from_weaker}
use Rattle.cli.proofs.Sessions.{good_written}
use Rattle.cli.proofs.session.ConnectionWork.run.Goals as goal

pub returns-clause-world : goal.returns-clause-world
returns-clause-world g c =
    from_weaker g.S.State c.args.store.now c.serve-served.new.store _ _ (λ world s. (_, refl, refl, c.serve-served.result, s, c.ending.ensures)) c.serve-served.ensures.session

pub returns-clause-good : goal.returns-clause-good
returns-clause-good g c = rw c.ending.ensures (good_written _ _ c.serve-served.result.end c.serve-served.ensures.counted)
