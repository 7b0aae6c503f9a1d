use Rattle.desk.proofs.Prelude.{◌≡◌, ◌∙◌, List, ℕ, sym, ap, subst, IfOk-weaker, is_gone, is_retired, gone_is, repo_view}
use Rattle.desk.proofs.store_reader.AnyRepoReader.is_gone.Goals as goal

pub returns-clause-gone : goal.returns-clause-gone
returns-clause-gone g c honest state shown =
    let name = c.args.name.now in
    IfOk-weaker c.is_retired.result _ _
    (λ gone is.
    subst (λ (n : List ℕ). gone ≡ is_retired n name shown.0) c.name.ensures is ∙ sym (ap (is_gone name) shown.2 ∙ gone_is shown.0 (repo_view c.args.repo.now) name shown.1.laws))
    (c.is_retired.ensures.each honest shown.0 shown.1)
