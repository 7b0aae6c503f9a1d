use Rattle.tables.proofs.Prelude.{ap, ◌∙◌, repo_text, remembered_in}
use Rattle.tables.proofs.Seeking.{finds}
use Rattle.tables.proofs.Store.staged_upload.Goals as goal

pub returns : goal.returns
returns g c =
    let repo = repo_text c.args.repo.now in
    let is_last = c.remembered_in-last.ensures ∙ ap (λ l. remembered_in l repo) c.as_slice.ensures.value in
    finds g.S.Store repo c.args.self.now c.take_staged.new.self c.in_ok-known.known c.remembered_in-last.result c.last_staged-found.new.conn c.last_staged-found.result c.in_ok-known.ensures.learns is_last c.last_staged-found.ensures
