-- An inspection that a server begins, and goes on with.
use Rattle.std.specs.Prelude.{Bool, false, is_some, Option, Some, None, ⊤}
use Rattle.std.proofs.Common.{◌≡◌, ◌≤◌, ◌+◌, ◌∙◌, inl, inr, ℕ, List, [], Result, Ok, Err, IfOk, IfErr, refl, rules, sym, subst}
use Rattle.outbox.specs.declared.operator_stream.OperatorStream.{OperatorStream}
use Rattle.store.specs.declared.state.State.{Ghosts}
use Rattle.faults.specs.Statuses.{of_task, status_of_end}
use Rattle.faults.specs.declared.faults.Fault.{Fault}
use Rattle.faults.specs.declared.faults.Fault.TheVariants as refusal
use Rattle.policy.specs.declared.policies.Policy.{Policy}
use Rattle.model.specs.World.{World}
use Rattle.model.specs.Steps.{Event}
use Rattle.refinement.specs.Left.{From, Reads}
use Rattle.refinement.proofs.Leading.{from_weaker}
use Rattle.command_line.specs.declared.args.OperatorCommand.{OperatorCommand}
use Rattle.command_line.specs.declared.args.OperatorCommand.TheVariants as command
use Rattle.operator.specs.Failing.{IsPlain}
use Rattle.operator.specs.Inspections.{Spares}
use Rattle.operator.specs.declared.faults.TaskFault.{TaskFault}
use Rattle.operator.specs.declared.faults.TaskFault.TheVariants as task
use Rattle.operator.specs.declared.inspecting.Inspection.{Inspection}
use Rattle.operator.specs.declared.inspecting.Purpose.{Purpose}
use Rattle.operator.specs.declared.inspecting.Purpose.TheVariants.{Check, Repair}
use Rattle.machine.specs.declared.machine.Machine as machine
use Rattle.machine.specs.Observations.{Observation, called}
use Rattle.server.specs.declared.outcomes.Outcome.{Outcome}
use Rattle.server.specs.declared.outcomes.Outcome.TheVariants.{Unchanged, Stopped, Reloaded, Began}
use Rattle.server.specs.declared.waiting.Waiting.{Waiting}
use Rattle.server.specs.Commands.{HasEndedSo, IsAnswered, IsClean, IsGoneOn, IsInspection, IsInspectionFault, IsObeyed, IsReplied, IsRequestDone, IsSentOn, is_stopped, became_of, operator_in, policy_after}
use Rattle.server.specs.Jobs.{Call, Calls, Helps, IsClientServed, IsFor, ServerState, ServesClean, ServesMore, first_turn, for_caller, seen_in, server_state, waiting_after}
use Rattle.transfers.specs.Transfers.{Owed}
use Rattle.server.proofs.Jobs.{clean_still, from_client, from_own, from_read, helps_read, serves_one}
use Rattle.clients.specs.declared.client.Client.{Client}
use Rattle.sockets.specs.declared.queue.Caller.TheVariants.{Operator}
use Rattle.sockets.specs.declared.queue.Caller.TheVariants as from

-- a plain fault is one of an inspection
pub plain_fault : (fault : TaskFault) → IsPlain fault → IsInspectionFault (of_task fault)
plain_fault (task.Store fault) plain = tt
plain_fault (task.Token fault) plain = absurd plain
plain_fault task.NoCaller plain = absurd plain
plain_fault task.NoObject plain = absurd plain
plain_fault task.Memory plain = tt
plain_fault task.Output plain = tt
plain_fault task.Reported plain = absurd plain

obeyed_clean : (busy : Bool) (operator : OperatorStream) (command : OperatorCommand) (inspection : Inspection) (seen : List Observation) → IsObeyed busy operator command (Ok (Began inspection)) seen → inspection.damaged ≡ 0
obeyed_clean busy operator command.Check inspection seen obeyed = obeyed.0.none
obeyed_clean busy operator command.Repair inspection seen obeyed = obeyed.0.none
obeyed_clean busy operator _ inspection seen obeyed = absurd obeyed

done_clean : (policy : Policy) (busy : Bool) (operator : OperatorStream) (command : OperatorCommand) (input : List ℕ) (inspection : Inspection) (world kept : World) (seen : List Observation) (steps : List Event)
    → HasEndedSo policy busy operator command input (Ok (Began inspection)) world seen steps kept → inspection.damaged ≡ 0
done_clean policy busy operator command input inspection world kept seen steps (inl (obeyed, none)) = obeyed_clean busy operator command inspection seen obeyed
done_clean policy busy operator command input inspection world kept seen steps (inr (Ok done, is, own)) = absurd (cc)
done_clean policy busy operator command input inspection world kept seen steps (inr (Err fault, is, own)) = absurd (cc)

request_clean : (policy : Policy) (busy : Bool) (operator : OperatorStream) (body : List ℕ) (ended : Result Outcome Fault) (inspection : Inspection) (world kept : World) (seen : List Observation) (steps : List Event)
    → Began inspection ≡ became_of ended → IsRequestDone policy busy operator body ended world seen steps kept → inspection.damaged ≡ 0
request_clean policy busy operator body (Err fault) inspection world kept seen steps made done = absurd (cc)
request_clean policy busy operator body (Ok outcome) inspection world kept seen steps made (inl (fault, is, none, silent)) = absurd (cc)
request_clean policy busy operator body (Ok outcome) inspection world kept seen steps made (inr (command, input, read, so)) =
    done_clean policy busy operator command input inspection world kept seen steps (subst (λ (o : Outcome). HasEndedSo policy busy operator command input (Ok o) world seen steps kept) (sym made) so)

-- an inspection that was begun for an operator has found nothing damaged yet
begun_clean : (policy : Policy) (busy : Bool) (operator : OperatorStream) (inspection : Inspection) (world kept : World) (seen : List Observation) (steps : List Event)
    → IsAnswered policy busy operator (Began inspection) world seen steps kept → inspection.damaged ≡ 0
begun_clean policy busy operator inspection world kept seen steps (inl s) = request_clean policy busy operator s.body s.ended inspection world kept s.own steps s.made s.done
begun_clean policy busy operator inspection world kept seen steps (inr (is, none, silent)) = absurd (cc)

-- somebody waits for the rest of an inspection
busy_is : (waiting : Option Waiting) → is_some waiting ≡ is_some (operator_in waiting)
busy_is None = refl
busy_is (Some waiting) = refl

module _ {S : Type 0} (g : Ghosts S) where
  -- the inspection went on, and why its command ended if it did
  pub advanced : (a b : S) (was is : Inspection) (r : Result Bool Fault) → From g a b (λ _. Spares g a b was is) → (is.damaged ≡ 0 → IfErr r IsInspectionFault)
      → From g a b (λ _. Reads g a b (λ _. ⊤) × (was.damaged ≡ 0 → (is.damaged ≡ 0) × IfErr r IsInspectionFault))
  advanced a b was is r p why = from_weaker g a b _ _ (λ world s. (s.reads, λ none. let clean = s.none ∙ none in (clean, why clean))) p

module _ {M : Type 0} (m : machine.Ghosts M) {S : Type 0} (g : Ghosts S) where
  -- an operator's command, while somebody waits or nobody does
  pub for_operator : (policy : Policy) (was : Option Waiting) (owed : List Owed) (busy : Bool) (operator : OperatorStream) (outcome : Outcome) (a b : S) (u v : M) → busy ≡ is_some was
      → From g a b (λ world. Helps m g (IsAnswered policy busy operator outcome) a b u v world) → From g a b (λ world. Helps m g (IsFor (server_state policy was owed) (for_caller (Operator operator)) outcome owed) a b u v world)
  for_operator policy was owed busy operator outcome a b u v is p =
      from_own m g (IsAnswered policy (is_some (operator_in was)) operator outcome) _ a b u v (λ world l steps kept own. (own, refl))
      (subst (λ (x : Bool). From g a b (λ world. Helps m g (IsAnswered policy x operator outcome) a b u v world)) (is ∙ busy_is was) p)

  -- an operator's command, after which the same one waits as before, or nobody
  pub serves_kept : (policy : Policy) (was : Option Waiting) (owed : List Owed) (busy : Bool) (operator : OperatorStream) (outcome : Outcome) (a b : S) (u v w : M) (count : ℕ) → waiting_after (operator_in was) (for_caller (Operator operator)) outcome ≡ operator_in was
      → m.observed u v (called (Operator operator)) → busy ≡ is_some was → From g a b (λ world. Helps m g (IsAnswered policy busy operator outcome) a b v w world)
      → From g a b (λ world. ServesClean m g was was (server_state policy was owed) a b u w world count count (server_state (policy_after policy outcome) was owed) (is_stopped outcome))
  serves_kept policy was owed busy operator outcome a b u v w count same call is p =
      clean_still m g (server_state policy was owed) (server_state (policy_after policy outcome) was owed) was (is_stopped outcome) a b u w count count
      (subst (λ (who : Option OperatorStream). From g a b (λ world. ServesMore m g (server_state policy was owed) a b u w world count count (record { policy = policy_after policy outcome; waiting = who; owed = owed }) (is_stopped outcome))) same
      (serves_one m g (server_state policy was owed) (Operator operator) outcome owed a b u v w count count call (search rules) (for_operator policy was owed busy operator outcome a b v w is p)))

  -- a client's turn, or the next part of what is sent to him
  pub serves_client : (policy : Policy) (was : Option Waiting) (owed owes : List Owed) (client : Client) (a b : S) (u v w : M) (before after : ℕ) → m.observed u v (called (from.Client client)) → after ≤ before + first_turn (from.Client client)
      → From g a b (λ world. Helps m g (IsClientServed policy client owed owes) a b v w world)
      → From g a b (λ world. ServesClean m g was was (server_state policy was owed) a b u w world before after (server_state policy was owes) false)
  serves_client policy was owed owes client a b u v w before after call few p =
      clean_still m g (server_state policy was owed) (server_state policy was owes) was false a b u w before after
      (serves_one m g (server_state policy was owed) (from.Client client) Unchanged owes a b u v w before after call few (from_client m g (server_state policy was owed) client owes a b v w p))

  -- an operator whose inspection was begun waits
  pub serves_begun : (policy : Policy) (was : Option Waiting) (owed : List Owed) (busy : Bool) (operator : OperatorStream) (inspection : Inspection) (a b : S) (u v w : M) (count : ℕ) → m.observed u v (called (Operator operator)) → busy ≡ is_some was
      → From g a b (λ world. Helps m g (IsAnswered policy busy operator (Began inspection)) a b v w world)
      → From g a b (λ world. ServesClean m g was (Some (record { stream = operator; inspection = inspection })) (server_state policy was owed) a b u w world count count (server_state policy (Some (record { stream = operator; inspection = inspection })) owed) false)
  serves_begun policy was owed busy operator inspection a b u v w count call is p =
      let one = serves_one m g (server_state policy was owed) (Operator operator) (Began inspection) owed a b u v w count count call (search rules) (for_operator policy was owed busy operator (Began inspection) a b v w is p) in
      record {
        honest = p.honest;
        each = λ honest world h clean.
            let own = p.each honest world h in
            (one.each honest world h, begun_clean policy busy operator inspection world own.done.kept (seen_in own.calls) _ own.own);
      }

  -- it goes on, or its operator has gone
  pub goes_still : (a b : S) (u v : M) (operator : OperatorStream) (was is : Inspection) (r : Result Bool Fault) (left : Option Waiting) (calls : List Call) → Calls m u calls v → IsSentOn operator left (seen_in calls) → (is.damaged ≡ 0 → IsClean left)
      → From g a b (λ _. Reads g a b (λ _. ⊤) × (was.damaged ≡ 0 → (is.damaged ≡ 0) × IfErr r IsInspectionFault)) → From g a b (λ world. was.damaged ≡ 0 → Helps m g (IsGoneOn operator (operator_in left)) a b u v world × IsClean left)
  goes_still a b u v operator was is r None calls made gone clean p = record {
    honest = p.honest;
    each = λ honest world h none.
        let went = p.each honest world h in
        (helps_read m g (IsGoneOn operator None) a b u v calls _ world h made went.0 (refl, (Err refusal.Operator, tt, inl gone)), tt);
  }
  goes_still a b u v operator was is r (Some left) calls made sent clean p = record {
    honest = p.honest;
    each = λ honest world h none.
        let went = p.each honest world h in
        (helps_read m g (IsGoneOn operator (Some left.stream)) a b u v calls _ world h made went.0 (sent.0, refl, sent.1), clean (went.1 none).0);
  }

  -- it has ended, and so has the reply
  pub goes_no_more : (a b : S) (u v : M) (operator : OperatorStream) (was is : Inspection) (r : Result Bool Fault) (ended : Result ⊤ Fault) (calls : List Call) → (IfErr r IsInspectionFault → IfErr ended IsInspectionFault)
      → Calls m u calls v → IsReplied operator (status_of_end ended) (seen_in calls) → From g a b (λ _. Reads g a b (λ _. ⊤) × (was.damaged ≡ 0 → (is.damaged ≡ 0) × IfErr r IsInspectionFault))
      → From g a b (λ world. was.damaged ≡ 0 → Helps m g (IsGoneOn operator None) a b u v world × ⊤)
  goes_no_more a b u v operator was is r ended calls same made replied p = record {
    honest = p.honest;
    each = λ honest world h none.
        let went = p.each honest world h in
        (helps_read m g (IsGoneOn operator None) a b u v calls _ world h made went.0 (refl, (ended, same (went.1 none).1, replied)), tt);
  }

  -- a command that begins an inspection
  pub inspection_helps : (policy : Policy) (busy : Bool) (operator : OperatorStream) (purpose : Purpose) (command : OperatorCommand) (input : List ℕ) (ended : Result Outcome Fault) (a b : S) (u : M)
      → ((outcome : Outcome) → IsInspection purpose busy outcome → IsObeyed busy operator command (Ok outcome) []) → IfOk ended (IsInspection purpose busy) → Reads g a b (λ _. ⊤)
      → From g a b (λ world. Helps m g (HasEndedSo policy busy operator command input ended) a b u u world)
  inspection_helps policy busy operator purpose command input (Ok outcome) a b u obeys is reads = from_read m g _ a b u u [] _ refl reads (λ world. inl (obeys outcome is, refl))
  inspection_helps policy busy operator purpose command input (Err fault) a b u obeys is reads = from_read m g _ a b u u [] _ refl reads (λ world. inr (Err fault, refl, inl (fault, refl, refl, tt)))

-- what a check or a repair that was begun is to the server
pub check_obeyed : (busy : Bool) (operator : OperatorStream) (outcome : Outcome) → IsInspection Check busy outcome → IsObeyed busy operator command.Check (Ok outcome) []
check_obeyed busy operator Unchanged is = absurd is
check_obeyed busy operator Stopped is = absurd is
check_obeyed busy operator (Reloaded policy) is = absurd is
check_obeyed busy operator (Began inspection) is = (is, refl)

pub repair_obeyed : (busy : Bool) (operator : OperatorStream) (outcome : Outcome) → IsInspection Repair busy outcome → IsObeyed busy operator command.Repair (Ok outcome) []
repair_obeyed busy operator Unchanged is = absurd is
repair_obeyed busy operator Stopped is = absurd is
repair_obeyed busy operator (Reloaded policy) is = absurd is
repair_obeyed busy operator (Began inspection) is = (is, refl)
