use Rattle.uploads.proofs.Prelude.{Result, Ok, Err, err_from_is_err_and, StoreFault, from_weaker}
use Rattle.uploads.proofs.Swept.{abandons}
use Rattle.uploads.proofs.removing.abandon.Goals as goal

pub returns-in_err-shorten : goal.returns-in_err-shorten
returns-in_err-shorten g c =
    let p = err_from_is_err_and c.from_residual.result c.from_residual.ensures.1 in
    rw p.1 (from_weaker g.S.State c.args.store.now c.shorten.new.store _ _ (λ world it. (it.0, tt)) c.in_err-shorten.ensures)

pub returns-in_err-remove_upload : goal.returns-in_err-remove_upload
returns-in_err-remove_upload g c =
    let p = err_from_is_err_and c.from_residual-in_err-remove_upload.result c.from_residual-in_err-remove_upload.ensures.1 in
    let failed : Result Unit StoreFault = Err p.0 in
    rw p.1 (abandons g.S.State c.args.store.now c.shorten.new.store c.remove_upload.new.self c.args.id c.in_ok-shorten.ensures failed tt c.in_err-remove_upload.ensures.failed c.in_err-remove_upload.ensures.failed.moves.was_honest)

pub returns : goal.returns
returns g c =
    let removed : Result Unit StoreFault = Ok tt in
    abandons g.S.State c.args.store.now c.shorten.new.store c.remove_upload.new.self c.args.id c.in_ok-shorten.ensures removed c.in_ok-remove_upload.ensures.made tt c.in_ok-remove_upload.ensures.made.moves.was_honest
