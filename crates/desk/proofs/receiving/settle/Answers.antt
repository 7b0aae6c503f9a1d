use Rattle.desk.proofs.Prelude.{Ok, Err}
use Rattle.uploads.specs.declared.completing.UploadFault.TheVariants as upload_fault
use Rattle.desk.proofs.Arriving.{settled}
use Rattle.desk.proofs.receiving.settle.Goals as goal

pub returns-in-Ok : goal.returns-in-Ok
returns-in-Ok g c =
    settled g.S.State c.args.store.now c.complete.new.store c.args.upload c.args.arrival.now (Ok c.in-Ok.field-0) c.in-Ok.ensures

pub returns-in-Err-Differs : goal.returns-in-Err-Differs
returns-in-Err-Differs g c =
    settled g.S.State c.args.store.now c.complete.new.store c.args.upload c.args.arrival.now (Err upload_fault.Differs)
    (rw c.in-Err-Differs.field-0-is at c.in-Err-Differs.ensures)

pub returns-in-Err-Store : goal.returns-in-Err-Store
returns-in-Err-Store g c =
    settled g.S.State c.args.store.now c.complete.new.store c.args.upload c.args.arrival.now (Err (upload_fault.Store c.in-Err-Store.fault))
    (rw c.in-Err-Store.field-0-is at c.in-Err-Store.ensures)
