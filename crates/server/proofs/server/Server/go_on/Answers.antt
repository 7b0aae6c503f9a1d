use Rattle.std.specs.Prelude.{None, false}
use Rattle.std.proofs.Common.{[], ◌∙◌, refl, sym}
use Rattle.server.specs.Jobs.{server_state}
use Rattle.transfers.specs.Transfers.{owed_in}
use Rattle.server.proofs.Jobs.{clean_still, from_gone_on, serves_none}
use Rattle.server.proofs.server.Server.go_on.Goals as goal

pub returns-in-Some-clause-world : goal.returns-in-Some-clause-world
returns-in-Some-clause-world g c =
    rw (sym c.take.ensures.value ∙ c.in-Some.is)
    (from_gone_on g.M.Machine g.S.State c.args.state.now.policy (owed_in c.args.state.now.tally.transfers) c.in-Some.begun c.go_on.result c.args.store.now c.go_on.new.store c.args.machine.now c.go_on.new.machine c.args.state.now.begun c.go_on.ensures)

pub returns-in_default-clause-world : goal.returns-in_default-clause-world
returns-in_default-clause-world g c =
    let s = server_state c.args.state.now.policy None (owed_in c.args.state.now.tally.transfers) in
    rw (sym c.take.ensures.value ∙ c.in_default.is, c.take.ensures.after)
    (clean_still g.M.Machine g.S.State s s None false c.args.store.now c.args.store.now c.args.machine.now c.args.machine.now c.args.state.now.begun c.args.state.now.begun
    (serves_none g.M.Machine g.S.State s c.args.store.now c.args.machine.now c.args.machine.now [] c.args.state.now.begun refl refl))
