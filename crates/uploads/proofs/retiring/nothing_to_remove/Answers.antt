use Rattle.uploads.proofs.Prelude.{ap, is_some, Option, subst, sym, ◌∙◌, err_from_is_err_and, ObjectRow, repo_text}
use Rattle.refinement.proofs.ReadOnly.{reads_then}
use Rattle.uploads.specs.Finding.{Finds}
use Rattle.uploads.proofs.Gone.{is_unknown, is_there}
use Rattle.uploads.proofs.retiring.nothing_to_remove.Goals as goal

pub returns-in_err-find : goal.returns-in_err-find
returns-in_err-find g c =
    let p = err_from_is_err_and c.from_residual-in_err-find.result c.from_residual-in_err-find.ensures.1 in
    rw p.1 (reads_then g.S.State c.args.store.now c.is_retired.new.store c.find.new.store _ _ _ (λ world laws gone found. tt) c.in_ok-is_retired.ensures c.in_err-find.ensures)

pub returns-in-None : goal.returns-in-None
returns-in-None g c =
    let repo = repo_text c.args.repo.now in
    let name = c.args.oid.now in
    reads_then g.S.State c.args.store.now c.is_retired.new.store c.find.new.store _ _ _
    (λ world laws gone found. is_unknown world repo name (sym gone ∙ c.if-branch.false) (subst (λ (o : Option ObjectRow). Finds g.S.State world c.find.new.store repo name o) c.in-None.is found)) c.in_ok-is_retired.ensures c.in_ok-find.ensures

pub returns-in-Some : goal.returns-in-Some
returns-in-Some g c =
    let repo = repo_text c.args.repo.now in
    let name = c.args.oid.now in
    reads_then g.S.State c.args.store.now c.is_retired.new.store c.find.new.store _ _ _
    (λ world laws gone found. is_there world repo name (sym gone ∙ c.if-branch.false) (ap is_some (subst (λ (o : Option ObjectRow). Finds g.S.State world c.find.new.store repo name o) c.in-Some.is found).1)) c.in_ok-is_retired.ensures c.in_ok-find.ensures
