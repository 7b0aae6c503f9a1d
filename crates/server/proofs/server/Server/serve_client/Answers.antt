use Rattle.transfers.specs.Transfers.{owed_by, owed_in}
use Rattle.server.proofs.Jobs.{client_part, client_turn, from_before}
use Rattle.server.proofs.server.Server.serve_client.Goals as goal

pub returns-in_err-part-in-Ok-clause-world : goal.returns-in_err-part-in-Ok-clause-world
returns-in_err-part-in-Ok-clause-world g c =
    let ok = c.in-Ok.ensures.ok in
    client_part g.M.Machine g.S.State c.args.state.now.policy c.args.client (owed_by c.in-Ok.due.transfer) (owed_in c.args.state.now.tally.transfers) (owed_in c.take.new.self) (owed_in c.send.new.self)
    c.args.store.now c.send.new.store c.args.machine.now c.shut_if.new.machine c.send.new.machine c.shut_if.ensures.0 ok.1 (rw c.count.ensures.transfers at ok.2) c.shut_if.ensures.1 c.shut_if.ensures.2 (rw ok.0 at c.send.ensures)

pub returns-in_ok-part-in-Ok-clause-world : goal.returns-in_ok-part-in-Ok-clause-world
returns-in_ok-part-in-Ok-clause-world g c =
    let ok = c.in-Ok.ensures.ok in
    rw c.note.ensures.transfers
    (client_part g.M.Machine g.S.State c.args.state.now.policy c.args.client (owed_by c.in-Ok.due.transfer) (owed_in c.args.state.now.tally.transfers) (owed_in c.take.new.self) (owed_in c.send.new.self)
    c.args.store.now c.send.new.store c.args.machine.now c.shut_if.new.machine c.send.new.machine c.shut_if.ensures.0 ok.1 (rw c.count.ensures.transfers at ok.2) c.shut_if.ensures.1 c.shut_if.ensures.2 (rw ok.0 at c.send.ensures))

pub returns-in_err-end-in-Err-clause-world : goal.returns-in_err-end-in-Err-clause-world
returns-in_err-end-in-Err-clause-world g c =
    let err = rw c.count.ensures.transfers at c.in-Err.ensures.err in
    let turn = rw (c.count.ensures.policy, err.0, err.2) at c.serve_turn.ensures.world in
    from_before g.M.Machine g.S.State _ c.args.store.now c.serve_turn.new.store c.args.machine.now c.shut_if.new.machine c.serve_turn.new.machine c.shut_if.ensures.0 c.shut_if.ensures.1 c.shut_if.ensures.2
    (client_turn g.M.Machine g.S.State c.args.state.now.policy c.args.client (owed_in c.args.state.now.tally.transfers) (owed_in c.serve_turn.new.state.tally.transfers)
    c.args.store.now c.serve_turn.new.store c.shut_if.new.machine c.serve_turn.new.machine err.1 turn)

pub returns-in_ok-end-in-Err-clause-world : goal.returns-in_ok-end-in-Err-clause-world
returns-in_ok-end-in-Err-clause-world g c =
    let err = rw c.count.ensures.transfers at c.in-Err.ensures.err in
    let turn = rw (c.count.ensures.policy, err.0, err.2) at c.serve_turn.ensures.world in
    rw c.note-in-Err.ensures.transfers
    (from_before g.M.Machine g.S.State _ c.args.store.now c.serve_turn.new.store c.args.machine.now c.shut_if.new.machine c.serve_turn.new.machine c.shut_if.ensures.0 c.shut_if.ensures.1 c.shut_if.ensures.2
    (client_turn g.M.Machine g.S.State c.args.state.now.policy c.args.client (owed_in c.args.state.now.tally.transfers) (owed_in c.serve_turn.new.state.tally.transfers)
    c.args.store.now c.serve_turn.new.store c.shut_if.new.machine c.serve_turn.new.machine err.1 turn))
