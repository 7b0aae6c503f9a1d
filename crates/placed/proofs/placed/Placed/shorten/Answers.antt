-- A chunk that is read first says that the upload has no place.
use Rattle.placed.proofs.Prelude.{◌*◌, sym, subst, err_from_is_err_and, upload_number, piece_size, staged_of, IsTruncated}
use Rattle.placed.proofs.Restaged.{ends_early}
use Rattle.placed.proofs.ShortenCalls.{shorten_failed, shorten_staged, shorten_other}
use Rattle.placed.proofs.placed.Placed.shorten.Goals as goal

pub returns-in_err-chunk : goal.returns-in_err-chunk
returns-in_err-chunk g c =
    let p = err_from_is_err_and c.from_residual.result c.from_residual.ensures.1 in
    let same = c.in_err-chunk.ensures.same in
    rw p.1 (ends_early g.T.State g.D.Disk c.args.self.now c.chunk.new.self same c.in_err-chunk.ensures.adds _ _ p.0)

pub returns-then-is_some : goal.returns-then-is_some
returns-then-is_some g c =
    let same = c.in_ok-chunk.ensures.same in
    ends_early g.T.State g.D.Disk c.args.self.now c.chunk.new.self same c.in_ok-chunk.ensures.adds _ _ _

pub returns-in_err-staged : goal.returns-in_err-staged
returns-in_err-staged g c =
    let p = err_from_is_err_and c.from_residual-in_err-staged.result c.from_residual-in_err-staged.ensures.1 in
    let id = upload_number c.args.id in
    rw p.1 (
    shorten_failed g.T.State g.D.Disk c.args.self.now c.chunk.new.self c.shorten_upload.new.self id c.args.n
    c.in_ok-chunk.field-0 c.in_ok-chunk.ensures (sym c.if-is_some.ensures)
    c.in_err-staged.field-0.0 p.0 c.in_err-staged.ensures)

pub returns-then-staged : goal.returns-then-staged
returns-then-staged g c =
    let id = upload_number c.args.id in
    let left = c.truncate.new.staged in
    shorten_staged g.T.State g.D.Disk c.args.self.now c.chunk.new.self c.shorten_upload.new.self id c.args.n
    c.in_ok-chunk.field-0 c.in_ok-chunk.ensures (sym c.if-is_some.ensures)
    c.in_ok-staged.staged c.in_ok-staged.ensures left c.if-staged.true
    (subst (λ n. IsTruncated id (n * piece_size) (staged_of c.args.self.now) left.items) c.from.ensures c.truncate.ensures)

pub returns-else-staged : goal.returns-else-staged
returns-else-staged g c =
    let id = upload_number c.args.id in
    shorten_other g.T.State g.D.Disk c.args.self.now c.chunk.new.self c.shorten_upload.new.self id c.args.n
    c.in_ok-chunk.field-0 c.in_ok-chunk.ensures (sym c.if-is_some.ensures)
    c.in_ok-staged.staged c.in_ok-staged.ensures c.if-staged.false
