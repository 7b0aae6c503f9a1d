use Rattle.downloads.proofs.Parts.{next_read}
use Rattle.downloads.proofs.download.Download.next.Goals as goal

pub returns-in-Ok-clause-next : goal.returns-in-Ok-clause-next
returns-in-Ok-clause-next g c =
    next_read g.S.State _ _ _ c.args.self.now c.in-Ok-Some.row (rw c.in-Ok-Some.field-0-is at c.in-Ok-Some.ensures)
    c.in-Ok.found c.in-Ok.ensures.bytes c.in-Ok.ensures.same c.in-Ok.ensures.adds
