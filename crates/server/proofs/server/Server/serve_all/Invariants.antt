use Rattle.std.specs.Prelude.{None, false}
use Rattle.std.proofs.Common.{◌≡◌}
use Rattle.refinement.specs.Left.{From}
use Rattle.server.specs.Jobs.{ServesClean, first_state, server_state}
use Rattle.transfers.specs.Transfers.{owed_in}
use Rattle.server.proofs.server.Server.serve_all.Given as goal

abbrev pub invariant-callers : goal.invariant-callers
invariant-callers g l = record {
  jobs : From g.S.State l.fn.store l.store (λ world.
      ServesClean g.M.Machine g.S.State None l.waiting (first_state l.fn.state.policy) l.fn.store l.store l.fn.machine l.machine world 0 l.state.begun (server_state l.state.policy l.waiting (owed_in l.state.tally.transfers)) false);
  most : l.state.most ≡ l.fn.state.most;
}
