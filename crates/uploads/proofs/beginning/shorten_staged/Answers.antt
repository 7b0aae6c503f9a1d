use Rattle.uploads.proofs.Prelude.{repo_text, from_weaker}
use Rattle.uploads.proofs.Begun.{finds_keeps, kept_then}
use Rattle.uploads.proofs.beginning.shorten_staged.Goals as goal

pub returns-in_err-staged : goal.returns-in_err-staged
returns-in_err-staged g c = finds_keeps g.S.State c.args.store.now c.staged_upload.new.self (repo_text c.args.repo.now) c.staged_upload.result c.staged_upload.ensures

pub returns-in_default : goal.returns-in_default
returns-in_default g c = finds_keeps g.S.State c.args.store.now c.staged_upload.new.self (repo_text c.args.repo.now) c.staged_upload.result c.staged_upload.ensures

pub returns : goal.returns
returns g c =
    kept_then g.S.State c.args.store.now c.staged_upload.new.self c.shorten.new.store (finds_keeps g.S.State c.args.store.now c.staged_upload.new.self (repo_text c.args.repo.now) c.staged_upload.result c.staged_upload.ensures)
    (from_weaker g.S.State c.staged_upload.new.self c.shorten.new.store _ _ (λ world it. it.0) c.shorten.ensures)
