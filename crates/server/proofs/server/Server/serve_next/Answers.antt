use Rattle.std.proofs.Common.{[], ◌∷◌, false, refl}
use Rattle.std.proofs.lemmas.Result.{err_from_is_err_and}
use Rattle.server.specs.declared.outcomes.Outcome.TheVariants.{Reloaded, Stopped, Unchanged}
use Rattle.server.specs.Jobs.{idles, server_state}
use Rattle.transfers.specs.Transfers.{owed_in}
use Rattle.server.proofs.Inspected.{serves_begun, serves_client, serves_kept}
use Rattle.server.proofs.Jobs.{calls_append, clean_still, one_idle, serves_none}
use Rattle.server.proofs.server.Server.serve_next.Goals as goal

pub returns-in_err-client-clause-world : goal.returns-in_err-client-clause-world
returns-in_err-client-clause-world g c =
    let p = err_from_is_err_and c.from_residual.result c.from_residual.ensures.1 in
    let s = server_state c.args.state.now.policy c.args.waiting.now (owed_in c.args.state.now.tally.transfers) in
    rw p.1
    (clean_still g.M.Machine g.S.State s s c.args.waiting.now false c.args.store.now c.args.store.now c.args.machine.now c.next_of.new.machine c.args.state.now.begun c.args.state.now.begun
    (serves_none g.M.Machine g.S.State s c.args.store.now c.args.machine.now c.next_of.new.machine (idles ∷ []) c.args.state.now.begun
    (one_idle g.M.Machine c.args.machine.now c.next_of.new.machine c.in_err-client.ensures.err) refl))

pub returns-in_err-serve_client-in-Some-Client-clause-world : goal.returns-in_err-serve_client-in-Some-Client-clause-world
returns-in_err-serve_client-in-Some-Client-clause-world g c =
    let p = err_from_is_err_and c.from_residual-in_err-serve_client-in-Some-Client.result c.from_residual-in_err-serve_client-in-Some-Client.ensures.1 in
    rw (p.1, c.serve_client.ensures.policy)
    (serves_client g.M.Machine g.S.State c.args.state.now.policy c.args.waiting.now (owed_in c.args.state.now.tally.transfers) (owed_in c.serve_client.new.state.tally.transfers) c.in-Some-Client.client
    c.args.store.now c.serve_client.new.store c.args.machine.now c.next_of.new.machine c.serve_client.new.machine
    c.args.state.now.begun c.serve_client.new.state.begun (rw (c.in-Some-Client.is, c.in-Some-Client.field-0-is) at c.in_ok-client.ensures.some) c.serve_client.ensures.begun c.serve_client.ensures.world)

pub returns-in_ok-serve_client-in-Some-Client-clause-world : goal.returns-in_ok-serve_client-in-Some-Client-clause-world
returns-in_ok-serve_client-in-Some-Client-clause-world g c =
    rw c.serve_client.ensures.policy
    (serves_client g.M.Machine g.S.State c.args.state.now.policy c.args.waiting.now (owed_in c.args.state.now.tally.transfers) (owed_in c.serve_client.new.state.tally.transfers) c.in-Some-Client.client
    c.args.store.now c.serve_client.new.store c.args.machine.now c.next_of.new.machine c.serve_client.new.machine
    c.args.state.now.begun c.serve_client.new.state.begun (rw (c.in-Some-Client.is, c.in-Some-Client.field-0-is) at c.in_ok-client.ensures.some) c.serve_client.ensures.begun c.serve_client.ensures.world)

pub returns-in-Unchanged-clause-world : goal.returns-in-Unchanged-clause-world
returns-in-Unchanged-clause-world g c =
    rw (c.serve_operator.ensures.policy, c.serve_operator.ensures.begun, c.serve_operator.ensures.transfers)
    (serves_kept g.M.Machine g.S.State c.args.state.now.policy c.args.waiting.now (owed_in c.args.state.now.tally.transfers) c.is_some-in-Some-Operator.result c.in-Some-Operator.stream Unchanged c.args.store.now c.serve_operator.new.store c.args.machine.now c.next_of.new.machine c.serve_operator.new.machine
    c.args.state.now.begun refl (rw (c.in-Some-Operator.is, c.in-Some-Operator.field-0-is) at c.in_ok-client.ensures.some) c.is_some-in-Some-Operator.ensures (rw c.in-Unchanged.is at c.serve_operator.ensures.world))

pub returns-in-Stopped-clause-world : goal.returns-in-Stopped-clause-world
returns-in-Stopped-clause-world g c =
    rw (c.serve_operator.ensures.policy, c.serve_operator.ensures.begun, c.serve_operator.ensures.transfers)
    (serves_kept g.M.Machine g.S.State c.args.state.now.policy c.args.waiting.now (owed_in c.args.state.now.tally.transfers) c.is_some-in-Some-Operator.result c.in-Some-Operator.stream Stopped c.args.store.now c.serve_operator.new.store c.args.machine.now c.next_of.new.machine c.serve_operator.new.machine
    c.args.state.now.begun refl (rw (c.in-Some-Operator.is, c.in-Some-Operator.field-0-is) at c.in_ok-client.ensures.some) c.is_some-in-Some-Operator.ensures (rw c.in-Stopped.is at c.serve_operator.ensures.world))

pub returns-in-Reloaded-clause-world : goal.returns-in-Reloaded-clause-world
returns-in-Reloaded-clause-world g c =
    rw (c.serve_operator.ensures.begun, c.serve_operator.ensures.transfers)
    (serves_kept g.M.Machine g.S.State c.args.state.now.policy c.args.waiting.now (owed_in c.args.state.now.tally.transfers) c.is_some-in-Some-Operator.result c.in-Some-Operator.stream (Reloaded c.in-Reloaded.policy) c.args.store.now c.serve_operator.new.store c.args.machine.now c.next_of.new.machine c.serve_operator.new.machine
    c.args.state.now.begun refl (rw (c.in-Some-Operator.is, c.in-Some-Operator.field-0-is) at c.in_ok-client.ensures.some) c.is_some-in-Some-Operator.ensures (rw c.in-Reloaded.is at c.serve_operator.ensures.world))

pub returns-in-Began-clause-world : goal.returns-in-Began-clause-world
returns-in-Began-clause-world g c =
    rw (c.serve_operator.ensures.policy, c.serve_operator.ensures.begun, c.serve_operator.ensures.transfers)
    (serves_begun g.M.Machine g.S.State c.args.state.now.policy c.args.waiting.now (owed_in c.args.state.now.tally.transfers) c.is_some-in-Some-Operator.result c.in-Some-Operator.stream c.in-Began.inspection c.args.store.now c.serve_operator.new.store c.args.machine.now c.next_of.new.machine c.serve_operator.new.machine
    c.args.state.now.begun (rw (c.in-Some-Operator.is, c.in-Some-Operator.field-0-is) at c.in_ok-client.ensures.some) c.is_some-in-Some-Operator.ensures (rw c.in-Began.is at c.serve_operator.ensures.world))

pub returns-in-None-clause-world : goal.returns-in-None-clause-world
returns-in-None-clause-world g c =
    let s = server_state c.args.state.now.policy c.args.waiting.now (owed_in c.args.state.now.tally.transfers) in
    rw (c.note_ended.ensures.begun, c.note_ended.ensures.policy, c.note_ended.ensures.transfers)
    (clean_still g.M.Machine g.S.State s s c.args.waiting.now false c.args.store.now c.args.store.now c.args.machine.now c.note_ended.new.machine c.args.state.now.begun c.args.state.now.begun
    (serves_none g.M.Machine g.S.State s c.args.store.now c.args.machine.now c.note_ended.new.machine (idles ∷ idles ∷ []) c.args.state.now.begun
    (calls_append g.M.Machine c.args.machine.now c.next_of.new.machine c.note_ended.new.machine (idles ∷ []) (idles ∷ [])
    (one_idle g.M.Machine c.args.machine.now c.next_of.new.machine (rw c.in-None.is at c.in_ok-client.ensures.none))
    (one_idle g.M.Machine c.next_of.new.machine c.note_ended.new.machine c.note_ended.ensures.machine)) refl))
