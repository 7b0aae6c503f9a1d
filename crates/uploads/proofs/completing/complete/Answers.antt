use Rattle.uploads.proofs.Prelude.{subst, err_from_is_err_and, keeps_then}
use Rattle.uploads.proofs.Received.{Reported, completes_by, refused, unremoved}
use Rattle.uploads.proofs.completing.complete.Goals as goal

pub returns-in_err-complete_upload : goal.returns-in_err-complete_upload
returns-in_err-complete_upload g c = record {
  honest = λ k. c.in_err-complete_upload.ensures.failed.moves.was_honest k;
  each = λ honest world h upload a.
      let p = err_from_is_err_and c.from_residual.result c.from_residual.ensures.1 in
      rw (p.1, p.2)
      (refused g.S.State c.args.store.now c.complete_upload.new.self world upload c.args.id c.args.last.now c.args.oid.now c.args.size h a c.in_err-complete_upload.field-0.0 c.in_err-complete_upload.ensures.failed);
}

pub returns-in-New : goal.returns-in-New
returns-in-New g c = record {
  honest = λ k. c.in_ok-complete_upload.ensures.made.moves.was_honest k;
  each = λ honest world h upload a.
      subst (Reported g.S.State c.args.store.now c.complete_upload.new.self world upload c.args.id c.args.last.now c.args.oid.now c.args.size h a) c.in-New.is
      (completes_by g.S.State c.args.store.now c.complete_upload.new.self world upload c.args.id c.args.last.now c.args.oid.now c.args.size h a c.in_ok-complete_upload.field-0 honest
      (c.in_ok-complete_upload.ensures.answers honest h.ready) c.in_ok-complete_upload.ensures.made);
}

pub returns-in_ok-abandon-in-Already : goal.returns-in_ok-abandon-in-Already
returns-in_ok-abandon-in-Already g c = record {
  honest = λ k. c.in_ok-complete_upload.ensures.made.moves.was_honest (c.in_ok-abandon-in-Already.ensures.honest k);
  each = λ honest world h upload a.
      let was = c.in_ok-abandon-in-Already.ensures.honest honest in
      let there =
      subst (Reported g.S.State c.args.store.now c.complete_upload.new.self world upload c.args.id c.args.last.now c.args.oid.now c.args.size h a) c.in-Already.is
      (completes_by g.S.State c.args.store.now c.complete_upload.new.self world upload c.args.id c.args.last.now c.args.oid.now c.args.size h a c.in_ok-complete_upload.field-0 was
      (c.in_ok-complete_upload.ensures.answers was h.ready) c.in_ok-complete_upload.ensures.made) in
      let gone = c.in_ok-abandon-in-Already.ensures.each honest world there.2.holds in
      (there.0, there.1, keeps_then g.S.State c.args.store.now c.complete_upload.new.self c.abandon.new.store world there.2 gone.0, gone.1);
}

pub returns-in_err-abandon-in-Already : goal.returns-in_err-abandon-in-Already
returns-in_err-abandon-in-Already g c = record {
  honest = λ k. c.in_ok-complete_upload.ensures.made.moves.was_honest (c.in_err-abandon-in-Already.ensures.honest k);
  each = λ honest world h upload a.
      let was = c.in_err-abandon-in-Already.ensures.honest honest in
      let there =
      subst (Reported g.S.State c.args.store.now c.complete_upload.new.self world upload c.args.id c.args.last.now c.args.oid.now c.args.size h a) c.in-Already.is
      (completes_by g.S.State c.args.store.now c.complete_upload.new.self world upload c.args.id c.args.last.now c.args.oid.now c.args.size h a c.in_ok-complete_upload.field-0 was
      (c.in_ok-complete_upload.ensures.answers was h.ready) c.in_ok-complete_upload.ensures.made) in
      let p = err_from_is_err_and c.from_residual-in_err-abandon-in-Already.result c.from_residual-in_err-abandon-in-Already.ensures.1 in
      let kept = keeps_then g.S.State c.args.store.now c.complete_upload.new.self c.abandon.new.store world there.2 (c.in_err-abandon-in-Already.ensures.each honest world there.2.holds).0 in
      rw (p.1, p.2) (unremoved g.S.State c.args.store.now c.abandon.new.store world c.args.id upload c.in_err-abandon-in-Already.field-0.0 kept);
}

pub returns-in-Differs : goal.returns-in-Differs
returns-in-Differs g c = record {
  honest = λ k. c.in_ok-complete_upload.ensures.made.moves.was_honest k;
  each = λ honest world h upload a.
      subst (Reported g.S.State c.args.store.now c.complete_upload.new.self world upload c.args.id c.args.last.now c.args.oid.now c.args.size h a) c.in-Differs.is
      (completes_by g.S.State c.args.store.now c.complete_upload.new.self world upload c.args.id c.args.last.now c.args.oid.now c.args.size h a c.in_ok-complete_upload.field-0 honest
      (c.in_ok-complete_upload.ensures.answers honest h.ready) c.in_ok-complete_upload.ensures.made);
}
