use Rattle.std.proofs.Common.{◌∙◌, ◌++◌, inr, [], ◌∷◌, refl, subst, sym}
use Rattle.std.proofs.lemmas.List.{append-nil}
use Rattle.std.proofs.lemmas.Result.{err_from_is_err_and}
use Rattle.control.specs.Versions.{version}
use Rattle.server.specs.Commands.{IsSilent}
use Rattle.machine.specs.Observations.{sent}
use Rattle.server.specs.Jobs.{idles, observes, seen_in}
use Rattle.server.proofs.Jobs.{calls_append, from_idle, from_served, one_idle, one_seen, seen_append}
use Rattle.server.proofs.operators.OperatorContext.serve.Goals as goal

pub returns-in_err-start : goal.returns-in_err-start
returns-in_err-start g c =
    let p = err_from_is_err_and c.from_residual.result c.from_residual.ensures.1 in
    rw p.1 (from_idle g.M.Machine g.S.State _ c.args.store.now c.args.machine.now c.args.machine.now [] refl (λ world. inr (refl, refl, tt)))

pub returns-in_err-body : goal.returns-in_err-body
returns-in_err-body g c =
    let p = err_from_is_err_and c.from_residual-in_err-body.result c.from_residual-in_err-body.ensures.1 in
    rw p.1
    (from_idle g.M.Machine g.S.State _ c.args.store.now c.args.machine.now c.read_body.new.machine c.in_err-body.ensures.err.0 c.in_err-body.ensures.err.1 (λ world. inr (refl, refl, c.in_err-body.ensures.err.2)))

pub returns-in_err-send : goal.returns-in_err-send
returns-in_err-send g c =
    let p = err_from_is_err_and c.from_residual-in_err-send.result c.from_residual-in_err-send.ensures.1 in
    let read = c.in_ok-body.ensures.ok in
    rw p.1
    (from_idle g.M.Machine g.S.State _ c.args.store.now c.args.machine.now c.send.new.self (read.0 ++ idles ∷ [])
    (calls_append g.M.Machine c.args.machine.now c.read_body.new.machine c.send.new.self read.0 (idles ∷ []) read.1 (one_idle g.M.Machine c.read_body.new.machine c.send.new.self c.in_err-send.ensures.err))
    (λ world. inr (refl, refl, subst IsSilent (sym (seen_append read.0 (idles ∷ []) ∙ append-nil (seen_in read.0) ∙ read.2)) tt)))

pub returns : goal.returns
returns g c =
    let operator = c.args.self.now.stream.now in
    let begins = sent operator (version ∷ []) in
    let read = c.in_ok-body.ensures.ok in
    let last = c.end.ensures.ended in
    rw c.end.ensures.made
    (from_served g.M.Machine g.S.State c.args.self.now.policy.now c.args.self.now.is_busy operator c.as_slice.result.now c.answer-ended.result c.args.store.now c.answer-ended.new.store c.args.machine.now c.read_body.new.machine c.send.new.self c.answer-ended.new.machine c.end.new.machine
    read.0 (observes begins ∷ []) last.0 read.1 (rw c.as_slice.ensures.value read.2) (one_seen g.M.Machine c.read_body.new.machine c.send.new.self begins c.in_ok-send.ensures.ok) refl last.1 last.2 c.answer-ended.ensures.done)
