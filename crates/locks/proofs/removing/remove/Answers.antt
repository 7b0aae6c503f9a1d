use Rattle.locks.proofs.Prelude.{nat_lt, refl, err_from_is_err_and, repo_text}
use Rattle.locks.proofs.Gone.{removed_by, refused_by}
use Rattle.locks.proofs.removing.remove.Goals as goal

pub returns-in_err-remove_lock : goal.returns-in_err-remove_lock
returns-in_err-remove_lock g c = record {
  honest = λ k. c.in_err-remove_lock.ensures.failed.moves.was_honest k;
  each = λ honest world h.
      let p = err_from_is_err_and c.from_residual.result c.from_residual.ensures.1 in
      rw p.1 (refused_by g.S.State c.args.store.now c.remove_lock.new.self world (repo_text c.args.repo.now) c.args.id honest h p.0 c.in_err-remove_lock.ensures.failed);
}

pub returns : goal.returns
returns g c = record {
  honest = λ k. c.in_ok-remove_lock.ensures.made.moves.was_honest k;
  each = λ honest world h.
      removed_by g.S.State c.args.store.now c.remove_lock.new.self world (repo_text c.args.repo.now) c.args.id honest h c.in_ok-remove_lock.field-0
      (c.in_ok-remove_lock.ensures.answers honest h.ready) c.in_ok-remove_lock.ensures.made (nat_lt 0 c.in_ok-remove_lock.field-0) refl;
}
