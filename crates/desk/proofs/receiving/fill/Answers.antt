use Rattle.desk.proofs.Prelude.{Ok, Err, err_from_is_err_and}
use Rattle.desk.proofs.Arriving.{fills_failed, fills_all}
use Rattle.desk.proofs.receiving.fill.Goals as goal

pub returns-in_err-take_all-clause-bytes : goal.returns-in_err-take_all-clause-bytes
returns-in_err-take_all-clause-bytes g c =
    let begun = c.in_ok-intake.ensures in
    let took = c.in_err-take_all.ensures.bytes in
    let p = err_from_is_err_and c.from_residual-in_err-take_all.result c.from_residual-in_err-take_all.ensures.1 in
    rw p.1 (
      took.0,
      took.1,
      fills_failed g.S.State c.args.store.now c.in_ok-intake.intake c.args.upload c.args.size begun.upload begun.size begun.empty c.take_all.new.store c.take_all.new.intake took.0 (Err c.in_err-take_all.field-0.0) p.0 took.2,
    )

pub returns-in_err-end-clause-bytes : goal.returns-in_err-end-clause-bytes
returns-in_err-end-clause-bytes g c =
    let begun = c.in_ok-intake.ensures in
    let took = c.in_ok-take_all.ensures.bytes in
    let p = err_from_is_err_and c.from_residual-in_err-end.result c.from_residual-in_err-end.ensures.1 in
    rw p.1 (
      took.0,
      took.1,
      fills_failed g.S.State c.args.store.now c.in_ok-intake.intake c.args.upload c.args.size begun.upload begun.size begun.empty c.take_all.new.store c.take_all.new.intake took.0 (Ok tt) p.0 took.2,
    )

pub returns-clause-bytes : goal.returns-clause-bytes
returns-clause-bytes g c =
    let begun = c.in_ok-intake.ensures in
    let took = c.in_ok-take_all.ensures.bytes in
    let end = c.in_ok-end.ensures in (
      took.0,
      took.1,
      fills_all g.S.State c.args.store.now c.in_ok-intake.intake c.args.upload c.args.size begun.upload begun.size begun.empty c.take_all.new.store c.take_all.new.intake took.0 c.in_ok-end.field-0
          c.in_ok-take_all.ensures.upload took.2 end.named end.whole,
    )
