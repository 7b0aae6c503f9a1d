use Rattle.placed.proofs.RowCompleted.{row_completed}
use Rattle.placed.proofs.placed.Placed.complete_row.Goals as goal

pub returns : goal.returns
returns g c =
    row_completed g.T.State g.D.Disk c.args.self.now c.complete_upload.new.self _ c.args.last.now _ _ c.chunk.new.self c.in_ok-chunk.field-0
    c.in_ok-chunk.ensures c.if-is_some.ensures c.if-last.false c.requires c.complete_upload.result c.complete_upload.ensures
