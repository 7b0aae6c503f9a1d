use Rattle.std.proofs.Common.{lit<, Some, None, ◌∙◌, sym, ap, ◌&&◌}
use Rattle.std.proofs.lemmas.Str.Pattern.{split_once_first}
use Rattle.names.specs.Texts.{is_user}
use Rattle.names.proofs.Splits.{repo_cut, repo_none}
use Rattle.names.proofs.texts.is_repo.Goals as goal

pub returns-then-is_user : goal.returns-then-is_user
returns-then-is_user c =
    let cut = split_once_first 47 c.args.text.now (Some (c.in-Some.owner, c.in-Some.name)) c.in-Some.ensures.cases (lit< tt) in
    let owner = sym c.is_user.ensures ∙ c.if-is_user.true in
    c.is_user-then-is_user.ensures ∙ sym (repo_cut c.args.text.now c.in-Some.owner.now c.in-Some.name.now cut ∙ ap (λ v. v && is_user c.in-Some.name.now) owner)

pub returns-else-is_user : goal.returns-else-is_user
returns-else-is_user c =
    let cut = split_once_first 47 c.args.text.now (Some (c.in-Some.owner, c.in-Some.name)) c.in-Some.ensures.cases (lit< tt) in
    let owner = sym c.is_user.ensures ∙ c.if-is_user.false in
    c.if-is_user.false ∙ sym (repo_cut c.args.text.now c.in-Some.owner.now c.in-Some.name.now cut ∙ ap (λ v. v && is_user c.in-Some.name.now) owner)

pub returns-in-None : goal.returns-in-None
returns-in-None c =
    sym (repo_none c.args.text.now (split_once_first 47 c.args.text.now None c.in-None.ensures.cases (lit< tt)))
