use Rattle.std.proofs.Common.{[], ◌∷◌, List, ap, inl, inr, refl}
use Rattle.std.proofs.lemmas.Result.{err_from_is_err_and}
use Rattle.machine.specs.Observations.{Observation, loaded}
use Rattle.server.specs.Jobs.{idles, observes}
use Rattle.server.proofs.Jobs.{calls_append, one_idle, one_seen}
use Rattle.server.proofs.operators.OperatorContext.reload.Goals as goal

pub returns-in_err-policy-clause-done : goal.returns-in_err-policy-clause-done
returns-in_err-policy-clause-done g c =
    let p = err_from_is_err_and c.from_residual.result c.from_residual.ensures.1 in
    rw p.1 (idles ∷ [], one_idle g.M.Machine c.args.machine.now c.policy.new.self c.in_err-policy.ensures.err, inr (p.0, refl, tt))

pub returns-in_err-line-clause-done : goal.returns-in_err-line-clause-done
returns-in_err-line-clause-done g c =
    let p = err_from_is_err_and c.from_residual-in_err-line.result c.from_residual-in_err-line.ensures.1 in
    rw p.1 (observes (loaded c.in_ok-policy.policy) ∷ [], one_seen g.M.Machine c.args.machine.now c.policy.new.self (loaded c.in_ok-policy.policy) c.in_ok-policy.ensures.ok, inr (p.0, refl, tt))

pub returns-in_err-push-clause-done : goal.returns-in_err-push-clause-done
returns-in_err-push-clause-done g c =
    let p = err_from_is_err_and c.from_residual-in_err-push.result c.from_residual-in_err-push.ensures.1 in
    rw p.1 (observes (loaded c.in_ok-policy.policy) ∷ [], one_seen g.M.Machine c.args.machine.now c.policy.new.self (loaded c.in_ok-policy.policy) c.in_ok-policy.ensures.ok, inr (p.0, refl, tt))

pub returns-in_err-print-clause-done : goal.returns-in_err-print-clause-done
returns-in_err-print-clause-done g c =
    let p = err_from_is_err_and c.from_residual-in_err-print.result c.from_residual-in_err-print.ensures.1 in
    rw p.1 (observes (loaded c.in_ok-policy.policy) ∷ [], one_seen g.M.Machine c.args.machine.now c.policy.new.self (loaded c.in_ok-policy.policy) c.in_ok-policy.ensures.ok, inr (p.0, refl, tt))

pub returns-in_err-send-clause-done : goal.returns-in_err-send-clause-done
returns-in_err-send-clause-done g c =
    let p = err_from_is_err_and c.from_residual-in_err-send.result c.from_residual-in_err-send.ensures.1 in
    let none = c.in_err-send.ensures.err in
    let read = one_seen g.M.Machine c.args.machine.now c.policy.new.self (loaded c.in_ok-policy.policy) c.in_ok-policy.ensures.ok in
    rw p.1 (
      observes (loaded c.in_ok-policy.policy) ∷ none.0,
      calls_append g.M.Machine c.args.machine.now c.policy.new.self c.send.new.machine (observes (loaded c.in_ok-policy.policy) ∷ []) none.0 read none.1,
      inr (p.0, refl, rw none.2 tt),
    )

pub returns-clause-done : goal.returns-clause-done
returns-clause-done g c =
    let sent = c.in_ok-send.ensures.ok in
    let read = one_seen g.M.Machine c.args.machine.now c.policy.new.self (loaded c.in_ok-policy.policy) c.in_ok-policy.ensures.ok in (
      observes (loaded c.in_ok-policy.policy) ∷ sent.0,
      calls_append g.M.Machine c.args.machine.now c.policy.new.self c.send.new.machine (observes (loaded c.in_ok-policy.policy) ∷ []) sent.0 read sent.1,
      inl (sent.2.0, sent.2.1, ap (λ (l : List Observation). loaded c.in_ok-policy.policy ∷ l) sent.2.2),
    )
