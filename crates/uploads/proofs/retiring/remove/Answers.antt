use Rattle.uploads.proofs.Prelude.{rules, sym, ◌∙◌, err_from_is_err_and, repo_text, from_weaker}
use Rattle.std.specs.Prelude.{IsTrue}
use Rattle.names.specs.Texts.{is_hex_64}
use Rattle.uploads.proofs.Gone.{refused_from, removed_from, failed_from, lacking_from}
use Rattle.uploads.proofs.retiring.remove.Goals as goal

pub returns-in_err-clear_staged : goal.returns-in_err-clear_staged
returns-in_err-clear_staged g c =
    let in_name : IsTrue (is_hex_64 c.args.oid) = search rules in
    let p = err_from_is_err_and c.from_residual.result c.from_residual.ensures.1 in
    rw p.1 (from_weaker g.S.State c.args.store.now c.clear_staged.new.store _ _ (λ world it _. it)
    (refused_from g.S.State (repo_text c.args.repo.now) c.args.oid c.args.repo.now.in_range in_name c.args.store.now c.clear_staged.new.store p.0 (from_weaker g.S.State c.args.store.now c.clear_staged.new.store _ _ (λ world it. it.0) c.in_err-clear_staged.ensures)))

pub returns-in_err-retire_object : goal.returns-in_err-retire_object
returns-in_err-retire_object g c =
    let in_name : IsTrue (is_hex_64 c.args.oid) = search rules in
    let p = err_from_is_err_and c.from_residual-in_err-retire_object.result c.from_residual-in_err-retire_object.ensures.1 in
    rw p.1 (failed_from g.S.State (repo_text c.args.repo.now) c.args.oid c.args.repo.now.in_range in_name c.args.store.now c.clear_staged.new.store c.retire_object.new.self p.0 c.in_ok-clear_staged.ensures c.in_err-retire_object.ensures.failed)

pub returns-then-branch : goal.returns-then-branch
returns-then-branch g c =
    let in_name : IsTrue (is_hex_64 c.args.oid) = search rules in
    removed_from g.S.State (repo_text c.args.repo.now) c.args.oid c.args.repo.now.in_range in_name c.args.store.now c.clear_staged.new.store c.retire_object.new.self c.in_ok-clear_staged.ensures c.in_ok-retire_object.ensures.made

pub returns-else-branch : goal.returns-else-branch
returns-else-branch g c =
    let in_name : IsTrue (is_hex_64 c.args.oid) = search rules in
    lacking_from g.S.State (repo_text c.args.repo.now) c.args.oid c.args.repo.now.in_range in_name c.args.store.now c.clear_staged.new.store c.retire_object.new.self c.in_ok-clear_staged.ensures c.in_ok-retire_object.ensures.made
    (λ k ready. let it = c.in_ok-retire_object.ensures.answers k ready in (it.0, sym c.if-branch.false ∙ it.1))
