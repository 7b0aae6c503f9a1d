use Rattle.std.proofs.Common.{◌∙◌, ◌++◌, [], ◌∷◌, inl, refl}
use Rattle.cli.specs.Asked.{IsFramePrinted}
use Rattle.std.proofs.lemmas.Result.{err_from_is_err_and}
use Rattle.std.specs.Prelude.{Ok, None}
use Rattle.faults.specs.declared.faults.Fault.TheVariants.{Control}
use Rattle.cli.proofs.Asked.{more_printed, frame_failed}
use Rattle.cli.proofs.via.Printing.print_rest.Goals as goal

pub frames-preserved : goal.frames-preserved
frames-preserved g c =
    let so_far = c.frames.invariant.printed in
    let mid = g.R.Source.left c.frames.source in
    let rest = g.R.Source.left c.print_frame.new.source in
    let was = g.K.Sink.taken c.frames.output in
    let is = g.K.Sink.taken c.print_frame.new.output in
    let read : IsFramePrinted mid rest c.args.self.destination was is (Ok None) = rw c.in_default.is at c.in_ok-status.ensures.frame in
    record {
      printed = (
        so_far.0 ++ read.0 ∷ [],
        more_printed (g.R.Source.left c.args.source.now) mid rest (g.K.Sink.taken c.args.output.now) was is c.args.self.destination so_far.0 read.0 so_far.1 read.1 read.2 read.3,
      );
      good = c.in_ok-status.ensures.good ∙ c.frames.invariant.good;
    }

pub returns-in_err-status-clause-reply : goal.returns-in_err-status-clause-reply
returns-in_err-status-clause-reply g c before start begins =
    let so_far = c.frames.invariant.printed in
    let failed = frame_failed before start (g.R.Source.left c.args.source.now) (g.R.Source.left c.frames.source) (g.R.Source.left c.print_frame.new.source) (g.K.Sink.taken c.args.output.now) (g.K.Sink.taken c.frames.output) c.args.self.destination so_far.0 begins so_far.1 in
    let p = err_from_is_err_and c.from_residual.result c.from_residual.ensures.1 in
    rw (p.1, p.2) (failed (g.K.Sink.taken c.print_frame.new.output) c.in_err-status.field-0.0 c.in_err-status.ensures.frame)

pub returns-clause-reply : goal.returns-clause-reply
returns-clause-reply g c before start begins =
    let so_far = c.frames.invariant.printed in
    frame_failed before start (g.R.Source.left c.args.source.now) (g.R.Source.left c.frames.source) (g.R.Source.left c.frames.source) (g.K.Sink.taken c.args.output.now) (g.K.Sink.taken c.frames.output) c.args.self.destination so_far.0 begins so_far.1
    (g.K.Sink.taken c.frames.output) Control (inl (inl refl, refl))
