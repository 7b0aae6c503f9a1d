use Rattle.locks.proofs.Prelude.{◌∙◌, ap, refl, sym, err_from_is_err_and, read_creation, LockRow}
use Rattle.locks.proofs.Making.{held_by, made_by, refused_by, refused_early, used_by}
use Rattle.locks.proofs.creating.create.Goals as goal

pub returns-in_err-ref_name : goal.returns-in_err-ref_name
returns-in_err-ref_name g c = refused_early g.S.State c.args.store.now c.args.lock.now _ _ c.from_residual.ensures.1

pub returns-in_err-path : goal.returns-in_err-path
returns-in_err-path g c = refused_early g.S.State c.args.store.now c.args.lock.now _ _ c.from_residual-in_err-path.ensures.1

pub returns-in_err-owner : goal.returns-in_err-owner
returns-in_err-owner g c = refused_early g.S.State c.args.store.now c.args.lock.now _ _ c.from_residual-in_err-owner.ensures.1

pub returns-in_err-creation : goal.returns-in_err-creation
returns-in_err-creation g c =
    let failed = c.in_err-creation.ensures.failed in
    let p = err_from_is_err_and c.from_residual-in_err-creation.result c.from_residual-in_err-creation.ensures.1 in
    record {
      honest = failed.moves.was_honest;
      each = λ honest world h. rw (p.1, p.2) (refused_by g.S.State c.args.store.now c.create_lock.new.self world c.args.lock.now honest h c.in_err-creation.field-0.0 failed);
    }

pub returns-in-Created : goal.returns-in-Created
returns-in-Created g c =
    let e = c.in_ok-creation.ensures in
    record {
      honest = e.made.moves.was_honest;
      each = λ honest world h.
          let said = e.answers honest h.ready in
          let row : LockRow = record { id = c.in-Created.id; ref_name = c.in_ok-ref_name.ref_name; path = c.in_ok-path.path; owner = c.in_ok-owner.owner; moment = c.args.lock.now.moment } in
          made_by g.S.State c.args.store.now c.create_lock.new.self world c.args.lock.now honest h row (said.0, ap read_creation (sym c.in-Created.is) ∙ said.1) c.in_ok-ref_name.ensures c.in_ok-path.ensures c.in_ok-owner.ensures refl e.made;
    }

pub returns-in-Held : goal.returns-in-Held
returns-in-Held g c =
    let e = c.in_ok-creation.ensures in
    record {
      honest = e.made.moves.was_honest;
      each = λ honest world h.
          let said = e.answers honest h.ready in
          held_by g.S.State c.args.store.now c.create_lock.new.self world c.args.lock.now honest h c.in-Held.held (said.0, ap read_creation (sym c.in-Held.is) ∙ said.1) e.made;
    }

pub returns-in-UsedUp : goal.returns-in-UsedUp
returns-in-UsedUp g c =
    let e = c.in_ok-creation.ensures in
    record {
      honest = e.made.moves.was_honest;
      each = λ honest world h.
          let said = e.answers honest h.ready in
          used_by g.S.State c.args.store.now c.create_lock.new.self world c.args.lock.now honest h (said.0, ap read_creation (sym c.in-UsedUp.is) ∙ said.1) e.made;
    }
