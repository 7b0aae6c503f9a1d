use Rattle.tables.proofs.Prelude.{ap, ◌∙◌, repo_text, remembered_in}
use Rattle.tables.proofs.Begins.{begins_none, begins_made, begins_failed}
use Rattle.tables.proofs.Store.begin_upload.Goals as goal

pub returns-in_err-known : goal.returns-in_err-known
returns-in_err-known g c =
    let learned = c.in_err-known.ensures.learns in
    begins_none g.S.Store c.args.self.now c.take_staged.new.self c.args.upload.now c.from_residual.result c.from_residual.ensures.0 learned.same learned.adds

pub returns-in-Ok : goal.returns-in-Ok
returns-in-Ok g c =
    let is_last = c.remembered_in-last.ensures ∙ ap (λ l. remembered_in l (repo_text c.args.upload.now.repo.now)) c.as_slice.ensures.value in
    begins_made g.S.Store c.args.self.now c.take_staged.new.self c.args.upload.now c.in_ok-known.known c.in_ok-known.ensures.learns c.remembered_in-last.result is_last c.begin.new.conn c.in-Ok.id c.remember.result c.remember.ensures c.in-Ok.ensures

pub returns-in-Err : goal.returns-in-Err
returns-in-Err g c =
    let is_last = c.remembered_in-last.ensures ∙ ap (λ l. remembered_in l (repo_text c.args.upload.now.repo.now)) c.as_slice.ensures.value in
    begins_failed g.S.Store c.args.self.now c.take_staged.new.self c.args.upload.now c.in_ok-known.known c.in_ok-known.ensures.learns c.remembered_in-last.result is_last c.begin.new.conn c.in-Err.fault c.in-Err.ensures
