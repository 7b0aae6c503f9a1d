use Rattle.uploads.proofs.Prelude.{Result, Option, Ok, Err, ap, subst, ◌∙◌, err_from_is_err_and, StoreFault, UploadRow, repo_text, from_weaker}
use Rattle.store.specs.Shown.{Finds}
use Rattle.uploads.proofs.Begun.{finds_keeps, kept_then}
use Rattle.uploads.proofs.Gone.{none_staged, cleared}
use Rattle.uploads.proofs.Swept.{abandons}
use Rattle.uploads.proofs.retiring.clear_staged.Goals as goal

pub returns-in_err-staged : goal.returns-in_err-staged
returns-in_err-staged g c =
    let p = err_from_is_err_and c.from_residual.result c.from_residual.ensures.1 in
    rw p.1 (from_weaker g.S.State c.args.store.now c.staged_upload.new.self _ _ (λ world keeps. (keeps, tt)) (finds_keeps g.S.State c.args.store.now c.staged_upload.new.self (repo_text c.args.repo.now) c.staged_upload.result c.staged_upload.ensures))

pub returns-in_default : goal.returns-in_default
returns-in_default g c = none_staged g.S.State (repo_text c.args.repo.now) c.args.store.now c.staged_upload.new.self c.staged_upload.result (c.in_ok-staged.was ∙ ap Ok c.in_default.is) c.staged_upload.ensures

pub returns-in_err-shorten : goal.returns-in_err-shorten
returns-in_err-shorten g c =
    let p = err_from_is_err_and c.from_residual-in_err-shorten.result c.from_residual-in_err-shorten.ensures.1 in
    rw p.1 (from_weaker g.S.State c.args.store.now c.shorten.new.store _ _ (λ world keeps. (keeps, tt))
    (kept_then g.S.State c.args.store.now c.staged_upload.new.self c.shorten.new.store (finds_keeps g.S.State c.args.store.now c.staged_upload.new.self (repo_text c.args.repo.now) c.staged_upload.result c.staged_upload.ensures)
    (from_weaker g.S.State c.staged_upload.new.self c.shorten.new.store _ _ (λ world it. it.0) c.shorten.ensures)))

pub returns-in_err-remove_upload : goal.returns-in_err-remove_upload
returns-in_err-remove_upload g c =
    let p = err_from_is_err_and c.from_residual-in_err-remove_upload.result c.from_residual-in_err-remove_upload.ensures.1 in
    let failed : Result Unit StoreFault = Err p.0 in
    let miss = c.in_err-remove_upload.ensures.failed in
    rw p.1 (from_weaker g.S.State c.args.store.now c.remove_upload.new.self _ _ (λ world keeps. (keeps, tt))
    (kept_then g.S.State c.args.store.now c.staged_upload.new.self c.remove_upload.new.self (finds_keeps g.S.State c.args.store.now c.staged_upload.new.self (repo_text c.args.repo.now) c.staged_upload.result c.staged_upload.ensures)
    (from_weaker g.S.State c.staged_upload.new.self c.remove_upload.new.self _ _ (λ world it. it.0) (abandons g.S.State c.staged_upload.new.self c.shorten.new.store c.remove_upload.new.self c.in-Some.staged.id c.in_ok-shorten.ensures failed tt miss miss.moves.was_honest))))

pub returns : goal.returns
returns g c =
    let finds = subst (λ (r : Result (Option UploadRow) StoreFault). Finds g.S.State c.args.store.now c.staged_upload.new.self (repo_text c.args.repo.now) r) (c.in_ok-staged.was ∙ ap Ok c.in-Some.is) c.staged_upload.ensures in
    cleared g.S.State (repo_text c.args.repo.now) c.args.store.now c.staged_upload.new.self c.shorten.new.store c.remove_upload.new.self c.in-Some.staged finds c.in_ok-shorten.ensures c.in_ok-remove_upload.ensures.made
