use Rattle.uploads.proofs.Prelude.{Option, subst, rules, err_from_is_err_and, repo_text}
use Rattle.std.specs.Prelude.{IsTrue}
use Rattle.names.specs.Texts.{is_hex_64}
use Rattle.refinement.specs.Left.{Reads}
use Rattle.uploads.specs.Retiring.{IsSeen}
use Rattle.uploads.specs.declared.retiring.Retired.{Retired}
use Rattle.uploads.proofs.Gone.{unread_from, told_from, then_removed}
use Rattle.uploads.proofs.retiring.retire.Goals as goal

pub returns-in_err-why : goal.returns-in_err-why
returns-in_err-why g c =
    let in_name : IsTrue (is_hex_64 c.args.oid) = search rules in
    let p = err_from_is_err_and c.from_residual.result c.from_residual.ensures.1 in
    rw p.1 (unread_from g.S.State (repo_text c.args.repo.now) c.args.oid c.args.repo.now.in_range in_name c.args.store.now c.nothing_to_remove.new.store p.0 c.in_err-why.ensures)

pub returns-in-Some : goal.returns-in-Some
returns-in-Some g c =
    let in_name : IsTrue (is_hex_64 c.args.oid) = search rules in
    let repo = repo_text c.args.repo.now in
    told_from g.S.State repo c.args.oid c.args.repo.now.in_range in_name c.args.store.now c.nothing_to_remove.new.store c.in-Some.why
    (subst (λ (o : Option Retired). Reads g.S.State c.args.store.now c.nothing_to_remove.new.store (λ w. IsSeen w repo c.args.oid o)) c.in-Some.is c.in_ok-why.ensures)

pub returns-in-None : goal.returns-in-None
returns-in-None g c =
    let in_name : IsTrue (is_hex_64 c.args.oid) = search rules in
    let repo = repo_text c.args.repo.now in
    then_removed g.S.State repo c.args.oid c.args.repo.now.in_range in_name c.args.store.now c.nothing_to_remove.new.store c.remove.new.store c.remove.result
    (subst (λ (o : Option Retired). Reads g.S.State c.args.store.now c.nothing_to_remove.new.store (λ w. IsSeen w repo c.args.oid o)) c.in-None.is c.in_ok-why.ensures) c.remove.ensures
