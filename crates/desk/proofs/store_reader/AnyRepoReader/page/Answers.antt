use Rattle.desk.proofs.Prelude.{rules, ◌≡◌, ◌∙◌, ap, sym, subst, page_of, cursor_or_first, page_seen, wanted_locks, repo_view, is_wanted, RepoState, filter, lock_seen, IfOk-weaker}
use Rattle.desk.specs.Visible.{is_visible}
use Rattle.desk.proofs.store_reader.AnyRepoReader.page.Goals as goal

pub returns-clause-page : goal.returns-clause-page
returns-clause-page g c honest state shown sees tests =
    let paged = c.page.ensures.each honest shown.0 shown.1 sees (λ row answer k.
    let is : answer ≡ is_visible c.args.visible row = search rules in
    is ∙ tests row ∙ ap (λ n. sees (lock_seen n row)) (sym c.name.ensures)) in
    IfOk-weaker c.page.result _ _
    (λ page is.
    subst (λ n. page_seen n page ≡ page_of (cursor_or_first c.args.cursor) c.args.limit (wanted_locks n shown.0 c.args.wanted.now sees)) c.name.ensures is
    ∙ ap (λ (s : RepoState). page_of (cursor_or_first c.args.cursor) c.args.limit (filter (is_wanted c.args.wanted.now sees) s.locks)) (sym shown.2))
    paged
