use Rattle.std.specs.Io.KnownBytes.{Appends}
use Rattle.std.proofs.Common.{◌∙◌, inl, inr, subst}
use Rattle.std.proofs.lemmas.Result.{err_from_is_err_and}
use Rattle.operator.specs.declared.escapes.Destination.{Destination}
use Rattle.cli.specs.Asked.{EndsAsAnswered, IsReplyPrinted}
use Rattle.cli.proofs.Asked.{ends_as_answered}
use Rattle.cli.proofs.via.ask_at.Goals as goal

pub returns-in_err-request-clause-answered : goal.returns-in_err-request-clause-answered
returns-in_err-request-clause-answered g c =
    let p = err_from_is_err_and c.from_residual.result c.from_residual.ensures.1 in
    inr (p.0, p.1, rw p.2 (inl c.in_err-request.ensures.err))

pub returns-in-Hold-clause-answered : goal.returns-in-Hold-clause-answered
returns-in-Hold-clause-answered g c =
    let taken = g.A.To.Sink.taken c.in_ok-connection.connection.to in
    let left = g.A.From.Source.left c.in_ok-connection.connection.from in
    let sent = g.A.To.Sink.taken c.ask_holding.new.connection.to in
    let rest = g.A.From.Source.left c.ask_holding.new.connection.from in
    let was = g.K.Sink.taken c.args.output.now in
    let is = g.K.Sink.taken c.ask_holding.new.output in
    let request = c.question_of-question.ensures.request ∙ c.as_slice.ensures.value in
    ends_as_answered (g.A.ServerAddress.connects c.args.address.now) c.args.command.now (g.R.Source.left c.args.input.now) (g.R.Source.left c.request_of.new.input) c.in_ok-request.request.items
    taken left sent rest was is c.args.destination c.in_ok-connection.ensures.ok c.in_ok-request.ensures.ok c.ask_holding.result
    (λ status same. subst (Appends taken sent) request (c.ask_holding.ensures.asked status same))
    (subst (λ (d : Destination). IsReplyPrinted left rest d was is c.ask_holding.result) c.question_of-question.ensures.destination c.ask_holding.ensures.reply)

pub returns-in-Stop-clause-answered : goal.returns-in-Stop-clause-answered
returns-in-Stop-clause-answered g c =
    let taken = g.A.To.Sink.taken c.in_ok-connection.connection.to in
    let left = g.A.From.Source.left c.in_ok-connection.connection.from in
    let sent = g.A.To.Sink.taken c.ask_to_the_end.new.to in
    let rest = c.ask_to_the_end.ensures.reply.0 in
    let was = g.K.Sink.taken c.args.output.now in
    let is = g.K.Sink.taken c.ask_to_the_end.new.output in
    let request = c.question_of-question.ensures.request ∙ c.as_slice.ensures.value in
    ends_as_answered (g.A.ServerAddress.connects c.args.address.now) c.args.command.now (g.R.Source.left c.args.input.now) (g.R.Source.left c.request_of.new.input) c.in_ok-request.request.items
    taken left sent rest was is c.args.destination c.in_ok-connection.ensures.ok c.in_ok-request.ensures.ok c.ask_to_the_end.result
    (λ status same. subst (Appends taken sent) request (c.ask_to_the_end.ensures.asked status same))
    (subst (λ (d : Destination). IsReplyPrinted left rest d was is c.ask_to_the_end.result) c.question_of-question.ensures.destination c.ask_to_the_end.ensures.reply.1)

pub returns : goal.returns
returns g c =
    let answered : EndsAsAnswered (g.A.ServerAddress.connects c.args.address.now) c.args.command.now (g.R.Source.left c.args.input.now) c.args.destination (g.K.Sink.taken c.args.output.now) (g.K.Sink.taken c.ask.new.output) c.ask.result =
    let taken = g.A.To.Sink.taken c.in_ok-connection.connection.to in
    let left = g.A.From.Source.left c.in_ok-connection.connection.from in
    let sent = g.A.To.Sink.taken c.ask.new.to in
    let rest = g.A.From.Source.left c.ask.new.from in
    let was = g.K.Sink.taken c.args.output.now in
    let is = g.K.Sink.taken c.ask.new.output in
    let request = c.question_of-question.ensures.request ∙ c.as_slice.ensures.value in
    ends_as_answered (g.A.ServerAddress.connects c.args.address.now) c.args.command.now (g.R.Source.left c.args.input.now) (g.R.Source.left c.request_of.new.input) c.in_ok-request.request.items
    taken left sent rest was is c.args.destination c.in_ok-connection.ensures.ok c.in_ok-request.ensures.ok c.ask.result
    (λ status same. subst (Appends taken sent) request (c.ask.ensures.asked status same))
    (subst (λ (d : Destination). IsReplyPrinted left rest d was is c.ask.result) c.question_of-question.ensures.destination c.ask.ensures.reply) in
    record { answered = answered; good = c.ask.ensures.good }
