use Rattle.desk.proofs.Prelude.{◌≡◌, ◌∙◌, ℕ, List, None, Some, sym, ap, subst, World, IsWorld, size_of, size_found, repo_view, Finds}
use Rattle.desk.proofs.store_reader.AnyRepoReader.size_of.Goals as goal

pub returns-in-Some-clause-size : goal.returns-in-Some-clause-size
returns-in-Some-clause-size g c honest state shown =
    let name = c.args.name.now in
    let repo = repo_view c.args.repo.now in
    let finds = (rw c.in-Some.is at c.in_ok-row.ensures).each honest shown.0 shown.1 in
    sym (ap (size_of name) shown.2
    ∙ size_found g.S.State shown.0 c.find.new.store repo name (Some c.in-Some.row) shown.1.laws
    (subst (λ (n : List ℕ). Finds g.S.State shown.0 c.find.new.store n name (Some c.in-Some.row)) c.name.ensures finds))

pub returns-in-None-clause-size : goal.returns-in-None-clause-size
returns-in-None-clause-size g c honest state shown =
    let name = c.args.name.now in
    let repo = repo_view c.args.repo.now in
    let finds = (rw c.in-None.is at c.in_ok-row.ensures).each honest shown.0 shown.1 in
    sym (ap (size_of name) shown.2
    ∙ size_found g.S.State shown.0 c.find.new.store repo name None shown.1.laws
    (subst (λ (n : List ℕ). Finds g.S.State shown.0 c.find.new.store n name None) c.name.ensures finds))
