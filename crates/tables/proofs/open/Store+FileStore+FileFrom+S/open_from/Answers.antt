use Rattle.tables.proofs.Prelude.{sym, subst, HasCleanDisk, HasNoTable}
use Rattle.sqlite_wal.specs.Files.{image_at}
use Rattle.sqlite.specs.Start.{FindsIn}
use Rattle.sqlite.specs.Files.{file_state, IsNothing}
use Rattle.typed_rows.proofs.Nothing.{no_table_in}
use Rattle.tables.proofs.Stages.{empty_has_none}
use Rattle.tables.proofs.open.Store+FileStore+FileFrom+S.open_from.Goals as goal

pub returns-in-Ok-clause-found : goal.returns-in-Ok-clause-found
returns-in-Ok-clause-found g c = subst (λ h. HasCleanDisk (file_state h) → FindsIn (image_at g.S.Start) (file_state h)) (sym c.adopt.ensures) c.in-Ok.ensures.found

pub returns-in-Ok-clause-empty : goal.returns-in-Ok-clause-empty
returns-in-Ok-clause-empty g c = subst (λ h. HasCleanDisk (file_state h) → IsNothing (image_at g.S.Start) → HasNoTable (file_state h)) (sym c.adopt.ensures) (λ clean nothing.
    let opened = c.in-Ok.ensures.opened clean in
    empty_has_none _ (no_table_in (image_at g.S.Start) _ nothing (c.in-Ok.ensures.found clean) opened.0 opened.1))
