-- The file may be synced between the call of the database and the write.
use Rattle.placed.proofs.Prelude.{◌+◌, rules, upload_number, staged_of, piece_size}
use Rattle.tables.specs.declared.fault.StoreFault.TheVariants.{Refused}
use Rattle.placed.proofs.Keeping.{altered}
use Rattle.placed.proofs.Added.{added, not_added}
use Rattle.placed.proofs.Lists.{one_at}
use Rattle.placed.proofs.Restaged.{counted, puts_counted, ends_counted}
use Rattle.placed.proofs.placed.Placed.add_piece.Goals as goal
use Rattle.placed.proofs.Written.{writes_past}

pub returns-in_err-sync_if_due-clause-puts : goal.returns-in_err-sync_if_due-clause-puts
returns-in_err-sync_if_due-clause-puts g c =
    let read = c.in_ok-chunk.ensures in
    ends_counted g.T.State g.D.Disk c.args.self.now c.chunk.new.self c.sync_if_due.new.disk c.sync_if_due.ensures.same
    c.sync_if_due.new.unsynced read.same read.adds _ c.from_residual-in_err-sync_if_due.ensures.0 _ _

pub returns-in-Ok-clause-puts : goal.returns-in-Ok-clause-puts
returns-in-Ok-clause-puts g c =
    let read = c.in_ok-chunk.ensures in
    let many = c.sync_if_due.new.unsynced + piece_size in
    let same = c.sync_if_due.ensures.same in
    let s = counted g.T.State g.D.Disk c.args.self.now c.sync_if_due.new.disk same many in
    let e = c.index_mut.result.now in
    let same_one = one_at c.args.self.now.staged.items c.in-Some.index e c.index.result.now (search rules) (search rules) (search rules) in
    let past = writes_past g.D.Disk (staged_of s) s.disk c.append.new.disk c.in-Some.index e
    (search rules) (search rules) (search rules) (altered g.D.Disk _ _ _ c.append.ensures.contents) _ (altered g.D.Disk _ _ _ c.append.ensures.others) in
    puts_counted g.T.State g.D.Disk c.args.self.now c.sync_if_due.new.disk same many _ _ _ _
    (added g.T.State g.D.Disk s c.chunk.new.self read.same read.adds past
    c.append.new.self (upload_number c.args.upload) c.args.n c.args.bytes.now (search rules) (search rules)
    (search rules) c.append.ensures.region c.in-Ok.ensures.written c.in-Ok.ensures.inside c.in-Ok.ensures.bytes
    (λ k h. (read.answers k h).0))

pub returns-in-Err-clause-puts : goal.returns-in-Err-clause-puts
returns-in-Err-clause-puts g c =
    let read = c.in_ok-chunk.ensures in
    let many = c.sync_if_due.new.unsynced + piece_size in
    let same = c.sync_if_due.ensures.same in
    let s = counted g.T.State g.D.Disk c.args.self.now c.sync_if_due.new.disk same many in
    let e = c.index_mut.result.now in
    let same_one = one_at c.args.self.now.staged.items c.in-Some.index e c.index.result.now (search rules) (search rules) (search rules) in
    let past = writes_past g.D.Disk (staged_of s) s.disk c.append.new.disk c.in-Some.index e
    (search rules) (search rules) (search rules) (altered g.D.Disk _ _ _ c.append.ensures.contents) _ (altered g.D.Disk _ _ _ c.append.ensures.others) in
    puts_counted g.T.State g.D.Disk c.args.self.now c.sync_if_due.new.disk same many _ _ _ _
    (not_added g.T.State g.D.Disk s c.chunk.new.self read.same read.adds past
    Refused _ _ c.append.new.self c.in-Err.ensures.unchanged)
