-- What was done for an operator, by the calls that his command makes.
use Rattle.std.proofs.Common.{◌≡◌, inl, inr, ℕ, List, Result, Ok, Err, refl}
use Rattle.std.specs.Prelude.{Bool, ⊤}
use Rattle.outbox.specs.declared.operator_stream.OperatorStream.{OperatorStream}
use Rattle.store.specs.declared.state.State.{Ghosts}
use Rattle.policy.specs.declared.policies.Policy.{Policy}
use Rattle.refinement.specs.Left.{From}
use Rattle.command_line.specs.declared.args.OperatorCommand.{OperatorCommand}
use Rattle.operator.specs.declared.tasks.Task.{Task}
use Rattle.faults.specs.declared.faults.Fault.{Fault}
use Rattle.machine.specs.declared.machine.Machine as machine
use Rattle.server.specs.declared.outcomes.Outcome.{Outcome}
use Rattle.server.specs.Commands.{AreReadings, HasEndedSo, IsDone, IsTaskOf, Obeys, RunsAs, ended_as}
use Rattle.server.specs.Jobs.{seen_in, Call, Calls, Helps}
use Rattle.server.proofs.Jobs.{from_done, from_idle, from_own}

module _ {M : Type 0} (m : machine.Ghosts M) {S : Type 0} (g : Ghosts S) where
  -- a command whose task was run
  pub task_helps : (policy : Policy) (command : OperatorCommand) (input : List ℕ) (task : Task) (ended : Result ⊤ Fault) (a b : S) (u v : M) (calls : List Call) → Calls m u calls v
      → From g a b (λ world. RunsAs g a b world task ended) → IsTaskOf policy command input (seen_in calls) task → From g a b (λ world. Helps m g (IsDone policy command input ended) a b u v world)
  task_helps policy command input task ended a b u v calls made p is =
      from_done m g (IsDone policy command input ended) a b u v calls (λ world. RunsAs g a b world task ended) made (λ world w. (w.works.done, inr (task, is, w.tried, w.is, w.works.end))) p

  -- a command without a task
  pub fault_helps : (policy : Policy) (command : OperatorCommand) (input : List ℕ) (ended : Result ⊤ Fault) (a : S) (u v : M) (calls : List Call) → Calls m u calls v
      → AreReadings (seen_in calls) → (fault : Fault) → ended ≡ Err fault → From g a a (λ world. Helps m g (IsDone policy command input ended) a a u v world)
  fault_helps policy command input ended a u v calls made readings fault failed = from_idle m g (IsDone policy command input ended) a u v calls made (λ world. inl (fault, failed, refl, readings))

  -- a command with a task ended as that did
  pub outcome_helps : (policy : Policy) (busy : Bool) (operator : OperatorStream) (command : OperatorCommand) (input : List ℕ) (done : Result ⊤ Fault) (a b : S) (u v : M)
      → From g a b (λ world. Helps m g (IsDone policy command input done) a b u v world) → From g a b (λ world. Helps m g (HasEndedSo policy busy operator command input (ended_as done)) a b u v world)
  outcome_helps policy busy operator command input done a b u v p = from_own m g (IsDone policy command input done) _ a b u v (λ world l steps kept own. inr (done, refl, own)) p

  -- a command for the server itself, whether it was obeyed or not
  pub order_helps : (policy : Policy) (busy : Bool) (operator : OperatorStream) (command : OperatorCommand) (input : List ℕ) (ended : Result Outcome Fault) (a : S) (u v : M)
      → (calls : List Call) × Calls m u calls v × Obeys busy operator command ended (seen_in calls) → From g a a (λ world. Helps m g (HasEndedSo policy busy operator command input ended) a a u v world)
  order_helps policy busy operator command input ended a u v (calls, made, inl obeyed) = from_idle m g _ a u v calls made (λ world. inl (obeyed, refl))
  order_helps policy busy operator command input ended a u v (calls, made, inr (fault, failed, readings)) = from_idle m g _ a u v calls made (λ world. inr (Err fault, failed, inl (fault, refl, refl, readings)))
