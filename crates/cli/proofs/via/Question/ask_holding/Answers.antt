use Rattle.std.specs.Prelude.{Ok, None}
use Rattle.std.proofs.Common.{◌≡◌, ◌∙◌, [], ◌∷◌, Err, ap, inl, inr, refl}
use Rattle.std.proofs.KnownBytes.{Consumes-trans}
use Rattle.std.proofs.lemmas.Result.{err_from_is_err_and}
use Rattle.control.specs.Replies.{piece_bytes}
use Rattle.control.specs.Versions.{version}
use Rattle.faults.specs.declared.faults.Fault.{Fault}
use Rattle.faults.specs.declared.faults.Fault.TheVariants.{Control}
use Rattle.cli.specs.Asked.{IsFramePrinted}
use Rattle.cli.proofs.Asked.{first_printed}
use Rattle.cli.proofs.via.Question.ask_holding.Goals as goal

pub returns-in_err-close-clause-reply : goal.returns-in_err-close-clause-reply
returns-in_err-close-clause-reply g c =
    let begin = g.R.Source.left c.args.connection.now.from in
    let start = g.R.Source.left c.read_version.new.source in
    let mid = g.R.Source.left c.print_frame.new.source in
    let was = g.K.Sink.taken c.args.output.now in
    let is = g.K.Sink.taken c.print_frame.new.output in
    let destination = c.args.self.now.destination in
    let frame : IsFramePrinted start mid destination was is (Ok None) = rw c.in_default.is at c.in_ok-status.ensures.frame in
    let read = Consumes-trans begin start mid (version ∷ []) (piece_bytes frame.0) c.in_ok-read_version.ensures.ok frame.2 in
    let p = err_from_is_err_and c.from_residual-in_err-close.result c.from_residual-in_err-close.ensures.1 in
    let failed : c.from_residual-in_err-close.result ≡ Err Control = p.1 ∙ ap (λ (f : Fault). Err f) (p.2 ∙ c.in_err-close.ensures.err) in
    inr (first_printed (version ∷ []) begin mid mid was is is destination frame.0 frame.1 read frame.3 c.from_residual-in_err-close.result (inr (inl (Control, failed, inl refl, inl refl))))

pub returns-clause-reply : goal.returns-clause-reply
returns-clause-reply g c =
    let begin = g.R.Source.left c.args.connection.now.from in
    let start = g.R.Source.left c.read_version.new.source in
    let mid = g.R.Source.left c.print_frame.new.source in
    let rest = g.R.Source.left c.print_rest.new.source in
    let was = g.K.Sink.taken c.args.output.now in
    let so_far = g.K.Sink.taken c.print_frame.new.output in
    let is = g.K.Sink.taken c.print_rest.new.output in
    let destination = c.args.self.now.destination in
    let frame : IsFramePrinted start mid destination was so_far (Ok None) = rw c.in_default.is at c.in_ok-status.ensures.frame in
    let read = Consumes-trans begin start mid (version ∷ []) (piece_bytes frame.0) c.in_ok-read_version.ensures.ok frame.2 in
    inr (first_printed (version ∷ []) begin mid rest was so_far is destination frame.0 frame.1 read frame.3 c.print_rest.result (c.print_rest.ensures.reply (version ∷ piece_bytes frame.0) begin read))
