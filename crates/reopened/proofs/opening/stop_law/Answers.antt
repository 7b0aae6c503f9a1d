-- The database and the file that are given back are those of the store.
use Rattle.std.proofs.Common.{IsTrue, subst, ap, arith, ◌∙◌}
use Rattle.sqlite.specs.Files.{over_files}
use Rattle.sqlite.specs.State.{HasCleanDisk}
use Rattle.sqlite.specs.Held.{state}
use Rattle.sqlite_store.specs.FileStore.{view}
use Rattle.tables.specs.Shown.{connection}
use Rattle.reopened.proofs.Stopped.{left_both}
use Rattle.reopened.proofs.opening.stop_law.Goals as goal

pub returns : goal.returns
returns g c bound clean clean_file kept bounded image may file may_file =
    let parts = c.into_parts-rows.ensures in
    let same = c.into_connection.ensures ∙ ap connection parts.rows in
    let honest = subst (λ h. HasCleanDisk (state over_files h)) same (omega (arith, clean, c.into_store.ensures.quiet.clean)) in
    let numbered = subst (λ h. IsTrue (view h.store).is_numbered) same (subst IsTrue c.into_store.ensures.undone.numbered (c.into_store.ensures.numbered clean)) in
    left_both g.C.Disk c.args.store bound (honest, (subst (λ f. IsTrue (g.C.Disk.is_clean f)) parts.disk clean_file, kept)) bounded
    file may_file numbered image may
