use Rattle.std.proofs.Common.{[], ◌∷◌, ◌++◌, ◌∙◌, refl, subst, sym}
use Rattle.std.proofs.lemmas.List.{append-nil}
use Rattle.server.specs.Commands.{AreReadings}
use Rattle.std.proofs.lemmas.Result.{err_from_is_err_and}
use Rattle.command_line.specs.declared.args.OperatorCommand.TheVariants.{Authenticate}
use Rattle.operator.specs.declared.tasks.Task.TheVariants.{Issue}
use Rattle.machine.specs.Observations.{drawn}
use Rattle.server.specs.Jobs.{idles, observes, seen_in}
use Rattle.server.proofs.Jobs.{seen_append, calls_append, moment_read, none_read, one_seen, one_idle}
use Rattle.server.proofs.Commands.{fault_helps, task_helps}
use Rattle.server.proofs.operators.OperatorContext.issue.Goals as goal

pub returns-in_err-now-clause-done : goal.returns-in_err-now-clause-done
returns-in_err-now-clause-done g c =
    λ input. fault_helps g.M.Machine g.S.State c.args.self.now.policy.now (Authenticate c.args.asked.now) input c.from_residual.result c.args.store.now c.args.machine.now c.moment_of.new.machine _ c.in_err-now.ensures.err.1 (none_read c.in_err-now.ensures.err.0 c.in_err-now.ensures.err.2)
    (err_from_is_err_and c.from_residual.result c.from_residual.ensures.1).0 (err_from_is_err_and c.from_residual.result c.from_residual.ensures.1).1

pub returns-in_default-clause-done : goal.returns-in_default-clause-done
returns-in_default-clause-done g c = λ input. fault_helps g.M.Machine g.S.State c.args.self.now.policy.now (Authenticate c.args.asked.now) input _ c.args.store.now c.args.machine.now c.moment_of.new.machine _ c.in_ok-now.ensures.ok.1 (moment_read c.args.asked.now.now c.in_ok-now.now _ c.in_ok-now.ensures.ok.2) _ refl

pub returns-in_err-random-clause-done : goal.returns-in_err-random-clause-done
returns-in_err-random-clause-done g c =
    λ input. fault_helps g.M.Machine g.S.State c.args.self.now.policy.now (Authenticate c.args.asked.now) input c.from_residual-in_err-random.result c.args.store.now c.args.machine.now c.random.new.self (c.in_ok-now.ensures.ok.0 ++ idles ∷ [])
    (calls_append g.M.Machine c.args.machine.now c.moment_of.new.machine c.random.new.self c.in_ok-now.ensures.ok.0 (idles ∷ []) c.in_ok-now.ensures.ok.1 (one_idle g.M.Machine c.moment_of.new.machine c.random.new.self c.in_err-random.ensures.err))
    (subst AreReadings (sym (seen_append c.in_ok-now.ensures.ok.0 (idles ∷ []) ∙ append-nil (seen_in c.in_ok-now.ensures.ok.0))) (moment_read c.args.asked.now.now c.in_ok-now.now _ c.in_ok-now.ensures.ok.2))
    (err_from_is_err_and c.from_residual-in_err-random.result c.from_residual-in_err-random.ensures.1).0 (err_from_is_err_and c.from_residual-in_err-random.result c.from_residual-in_err-random.ensures.1).1

pub returns-clause-done : goal.returns-clause-done
returns-clause-done g c =
    let drew = observes (drawn c.in_ok-random.random) ∷ [] in
    λ input. task_helps g.M.Machine g.S.State c.args.self.now.policy.now (Authenticate c.args.asked.now) input (Issue c.args.self.now.policy c.token_request-request.result) c.work.result c.args.store.now c.work.new.store c.args.machine.now c.random.new.self
    (c.in_ok-now.ensures.ok.0 ++ drew)
    (calls_append g.M.Machine c.args.machine.now c.moment_of.new.machine c.random.new.self c.in_ok-now.ensures.ok.0 drew c.in_ok-now.ensures.ok.1
    (one_seen g.M.Machine c.moment_of.new.machine c.random.new.self (drawn c.in_ok-random.random) c.in_ok-random.ensures.ok))
    c.work.ensures.done
    (refl, (c.in_ok-now.now, _, c.in_ok-now.ensures.ok.2, c.in_ok-random.random, seen_append c.in_ok-now.ensures.ok.0 drew, _, c.in-Some.ensures.path, c.in-Some.ensures.repo, rw c.token_seconds.ensures.value at c.token_request-request.ensures))
