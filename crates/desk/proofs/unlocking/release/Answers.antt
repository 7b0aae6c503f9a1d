use Rattle.desk.proofs.Prelude.{Ok, Err, subst, repo_text, lock_seen, Removes}
use Rattle.desk.proofs.Releasing.{removed, not_removed, removal_refused}
use Rattle.desk.proofs.Verdicts.{passed_on}
use Rattle.desk.proofs.unlocking.release.Goals as goal

pub returns-in_err-remove : goal.returns-in_err-remove
returns-in_err-remove g c = record {
  honest = c.in_err-remove.ensures.honest;
  each = λ honest world h there.
      let repo = repo_text c.args.repo.now in
      let done = c.in_err-remove.ensures.each honest world h in
      passed_on g.S.State c.args.store.now c.remove.new.store world _ c.in_err-remove.field-0.0 c.from_residual-in_err-remove.result c.from_residual-in_err-remove.ensures.1
      (removal_refused g.S.State c.args.store.now c.remove.new.store world repo c.args.row.now.id (lock_seen repo c.args.row.now) there c.in_err-remove.field-0.0 done) done.1;
}

pub returns-then-branch : goal.returns-then-branch
returns-then-branch g c = record {
  honest = c.in_ok-remove.ensures.honest;
  each = λ honest world h there.
      let repo = repo_text c.args.repo.now in
      removed g.S.State c.args.store.now c.remove.new.store world repo c.args.row.now.id (lock_seen repo c.args.row.now) there c.in_ok-reply.reply (c.in_ok-reply.ensures repo)
      (subst (λ b. Removes g.S.State world repo c.args.row.now.id c.args.store.now c.remove.new.store (Ok b)) c.if-branch.true (c.in_ok-remove.ensures.each honest world h));
}

pub returns-else-branch : goal.returns-else-branch
returns-else-branch g c = record {
  honest = c.in_ok-remove.ensures.honest;
  each = λ honest world h there.
      let repo = repo_text c.args.repo.now in
      not_removed g.S.State c.args.store.now c.remove.new.store world repo c.args.row.now.id (lock_seen repo c.args.row.now) there (Err c.into.result)
      (subst (λ b. Removes g.S.State world repo c.args.row.now.id c.args.store.now c.remove.new.store (Ok b)) c.if-branch.false (c.in_ok-remove.ensures.each honest world h));
}
