-- The database is accepted, and then served with the file.
use Rattle.std.proofs.Common.{Err, ap}
use Rattle.std.proofs.lemmas.Result.{err_from_is_err_and}
use Rattle.reopened.proofs.Started.{is_new, is_one, is_served}
use Rattle.reopened.proofs.opening.start_beside.Goals as goal

pub returns-in_err-create_or_check-clause-err : goal.returns-in_err-create_or_check-clause-err
returns-in_err-create_or_check-clause-err g c =
    let e = c.in_err-create_or_check.ensures in
    let p = err_from_is_err_and c.from_residual.result c.from_residual.ensures.1 in
    rw (p.1, p.2) (record {
      ended = c.create_or_check.new.self;
      rests = e.err;
      adds = e.stop;
      unknown = λ k same. e.unknown k (ap Err same);
    })

pub returns-in_err-open-clause-err : goal.returns-in_err-open-clause-err
returns-in_err-open-clause-err g c =
    let a = c.in_ok-create_or_check.ensures in
    let e = c.in_err-open.ensures in
    let p = err_from_is_err_and c.from_residual-in_err-open.result c.from_residual-in_err-open.ensures.1 in
    rw (p.1, p.2) (record {
      accepted = c.create_or_check.new.self;
      accepts = record { ready = a.ready; version = a.version; ok = a.ok; safe = a.safe; only = a.only };
      adds = a.stop;
      closed = e.ended;
      faults = e.faults;
    })

pub returns-clause-accepts : goal.returns-clause-accepts
returns-clause-accepts g c =
    let a = c.in_ok-create_or_check.ensures in
    let o = c.in_ok-open.ensures in
    is_served g.S.Store c.args.rows c.create_or_check.new.self
    (record { ready = a.ready; version = a.version; ok = a.ok; safe = a.safe; only = a.only }) g.D.Disk c.args.disk c.in_ok-open.field-0
    (record { honest = o.honest; was_open = o.was_open; tables = o.tables; shows = o.shown; left = o.left; safe = o.safe })

pub returns-clause-fresh : goal.returns-clause-fresh
returns-clause-fresh g c none =
    let a = c.in_ok-create_or_check.ensures in
    let o = c.in_ok-open.ensures in
    is_new g.S.Store c.args.rows c.create_or_check.new.self
    (record { ready = a.ready; version = a.version; ok = a.ok; safe = a.safe; only = a.only }) g.D.Disk c.args.disk c.in_ok-open.field-0
    (record { honest = o.honest; was_open = o.was_open; tables = o.tables; shows = o.shown; left = o.left; safe = o.safe }) none

pub returns-clause-again : goal.returns-clause-again
returns-clause-again g c bound among honest =
    let a = c.in_ok-create_or_check.ensures in
    let o = c.in_ok-open.ensures in
    is_one g.S.Store c.args.rows c.create_or_check.new.self
    (record { ready = a.ready; version = a.version; ok = a.ok; safe = a.safe; only = a.only }) g.D.Disk c.args.disk c.in_ok-open.field-0
    (record { honest = o.honest; was_open = o.was_open; tables = o.tables; shows = o.shown; left = o.left; safe = o.safe }) bound among
    (a.ours (o.honest honest).0 among.0 among.1 among.2)
