use Rattle.refinement.proofs.Prelude.{IsTrue, subst, arith, over_files}
use Rattle.sqlite.specs.State.{HasCleanDisk}
use Rattle.sqlite.specs.Held.{state}
use Rattle.sqlite_store.specs.FileStore.{view}
use Rattle.refinement.proofs.TakenUp.{left_image}
use Rattle.refinement.proofs.opening.stop_law.Goals as goal

pub returns : goal.returns
returns g c bound clean bounded image may =
    let same = c.into_connection.ensures in
    let honest = subst (λ h. HasCleanDisk (state over_files h)) same (omega (arith, clean, c.into_store.ensures.quiet.clean)) in
    let numbered = subst (λ h. IsTrue (view h.store).is_numbered) same (subst IsTrue c.into_store.ensures.undone.numbered (c.into_store.ensures.numbered clean)) in
    left_image c.args.store bound honest bounded numbered image may
