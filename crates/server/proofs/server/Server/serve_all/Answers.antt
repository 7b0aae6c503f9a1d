use Rattle.std.specs.Prelude.{None, false, true}
use Rattle.std.proofs.Common.{◌∙◌, [], ◌∷◌, refl, sym, subst, ◌≡◌, List}
use Rattle.std.proofs.lemmas.Result.{err_from_is_err_and}
use Rattle.refinement.specs.Left.{From}
use Rattle.faults.specs.declared.faults.Fault.TheVariants.{Network}
use Rattle.server.specs.Jobs.{ServesClean, first_state, idles, server_state}
use Rattle.transfers.specs.Transfers.{Owed, owed_in}
use Rattle.server.proofs.Jobs.{calls_append, clean_still, from_failed, from_full, from_serves, from_settled, from_stopped, one_idle, serves_none}
use Rattle.server.proofs.server.Server.serve_all.Goals as goal

pub callers-init : goal.callers-init
callers-init g c = record {
  jobs = rw c.requires.begun
      (subst
      (λ (owed : List Owed). From g.S.State c.args.store.now c.args.store.now (λ world. ServesClean g.M.Machine g.S.State None None (first_state c.args.state.now.policy) c.args.store.now c.args.store.now c.args.machine.now c.args.machine.now world 0 0 (server_state c.args.state.now.policy None owed) false))
      (sym c.requires.owed)
      (clean_still g.M.Machine g.S.State (first_state c.args.state.now.policy) (first_state c.args.state.now.policy) None false c.args.store.now c.args.store.now c.args.machine.now c.args.machine.now 0 0
      (serves_none g.M.Machine g.S.State (first_state c.args.state.now.policy) c.args.store.now c.args.machine.now c.args.machine.now [] 0 refl refl)));
  most = refl;
}

pub callers-preserved : goal.callers-preserved
callers-preserved g c = record {
  jobs =
      let served = from_serves g.M.Machine g.S.State (first_state c.args.state.now.policy) (server_state c.callers.state.policy c.callers.waiting (owed_in c.callers.state.tally.transfers)) (server_state c.serve_next.new.state.policy c.serve_next.new.waiting (owed_in c.serve_next.new.state.tally.transfers))
      None c.callers.waiting c.serve_next.new.waiting false c.args.store.now c.callers.store c.serve_next.new.store
      c.args.machine.now c.callers.machine c.serve_next.new.machine 0 c.callers.state.begun c.serve_next.new.state.begun c.callers.invariant.jobs (rw (c.in_ok-operator.was, c.in_default.is) at c.serve_next.ensures.world) in
      from_serves g.M.Machine g.S.State (first_state c.args.state.now.policy) (server_state c.serve_next.new.state.policy c.serve_next.new.waiting (owed_in c.serve_next.new.state.tally.transfers)) (server_state c.go_on.new.state.policy c.go_on.new.waiting (owed_in c.go_on.new.state.tally.transfers))
      None c.serve_next.new.waiting c.go_on.new.waiting false c.args.store.now c.serve_next.new.store c.go_on.new.store
      c.args.machine.now c.serve_next.new.machine c.go_on.new.machine 0 c.serve_next.new.state.begun c.go_on.new.state.begun served c.go_on.ensures.world;
  most = c.go_on.ensures.most ∙ c.serve_next.ensures.most ∙ c.callers.invariant.most;
}

pub returns-in_err-check_files : goal.returns-in_err-check_files
returns-in_err-check_files g c =
    let p = err_from_is_err_and c.from_residual.result c.from_residual.ensures.1 in
    rw p.1
    (from_failed g.M.Machine g.S.State c.args.state.now.policy (server_state c.callers.state.policy c.callers.waiting (owed_in c.callers.state.tally.transfers)) c.callers.waiting c.args.state.now.most c.callers.state.begun p.0 c.args.store.now c.callers.store c.args.machine.now c.callers.machine
    c.callers.invariant.jobs)

pub returns-in_err-operator : goal.returns-in_err-operator
returns-in_err-operator g c =
    let p = err_from_is_err_and c.from_residual-in_err-operator.result c.from_residual-in_err-operator.ensures.1 in
    rw p.1
    (from_failed g.M.Machine g.S.State c.args.state.now.policy (server_state c.serve_next.new.state.policy c.serve_next.new.waiting (owed_in c.serve_next.new.state.tally.transfers)) c.serve_next.new.waiting c.args.state.now.most c.serve_next.new.state.begun p.0 c.args.store.now c.serve_next.new.store c.args.machine.now c.serve_next.new.machine
    (from_serves g.M.Machine g.S.State (first_state c.args.state.now.policy) (server_state c.callers.state.policy c.callers.waiting (owed_in c.callers.state.tally.transfers)) (server_state c.serve_next.new.state.policy c.serve_next.new.waiting (owed_in c.serve_next.new.state.tally.transfers))
    None c.callers.waiting c.serve_next.new.waiting false c.args.store.now c.callers.store c.serve_next.new.store
    c.args.machine.now c.callers.machine c.serve_next.new.machine 0 c.callers.state.begun c.serve_next.new.state.begun c.callers.invariant.jobs (rw c.in_err-operator.was at c.serve_next.ensures.world)))

pub returns-then-is_full : goal.returns-then-is_full
returns-then-is_full g c =
    rw c.callers.invariant.most
    (from_full g.M.Machine g.S.State c.args.state.now.policy (server_state c.callers.state.policy c.callers.waiting (owed_in c.callers.state.tally.transfers)) c.callers.waiting c.args.state.now.most c.callers.state.begun c.args.store.now c.callers.store c.args.machine.now c.settle.new.self
    (rw c.callers.invariant.most at (rw c.if-is_full.true at c.is_full.ensures))
    (from_settled g.M.Machine g.S.State (first_state c.args.state.now.policy) (server_state c.callers.state.policy c.callers.waiting (owed_in c.callers.state.tally.transfers)) None c.callers.waiting false c.args.store.now c.callers.store c.args.machine.now c.callers.machine c.settle.new.self (idles ∷ []) 0 c.callers.state.begun
    (one_idle g.M.Machine c.callers.machine c.settle.new.self c.settle.ensures) refl c.callers.invariant.jobs))

pub returns-in-Some : goal.returns-in-Some
returns-in-Some g c =
    from_stopped g.M.Machine g.S.State c.args.state.now.policy (server_state c.serve_next.new.state.policy c.serve_next.new.waiting (owed_in c.serve_next.new.state.tally.transfers)) c.serve_next.new.waiting c.args.state.now.most c.serve_next.new.state.begun c.in-Some.operator c.args.store.now c.serve_next.new.store c.args.machine.now c.settle-in-Some.new.self
    (from_settled g.M.Machine g.S.State (first_state c.args.state.now.policy) (server_state c.serve_next.new.state.policy c.serve_next.new.waiting (owed_in c.serve_next.new.state.tally.transfers)) None c.serve_next.new.waiting true c.args.store.now c.serve_next.new.store c.args.machine.now c.serve_next.new.machine c.settle-in-Some.new.self (idles ∷ idles ∷ []) 0 c.serve_next.new.state.begun
    (calls_append g.M.Machine c.serve_next.new.machine c.shut_at_once.new.self c.settle-in-Some.new.self (idles ∷ []) (idles ∷ [])
    (one_idle g.M.Machine c.serve_next.new.machine c.shut_at_once.new.self c.shut_at_once.ensures)
    (one_idle g.M.Machine c.shut_at_once.new.self c.settle-in-Some.new.self c.settle-in-Some.ensures)) refl
    (from_serves g.M.Machine g.S.State (first_state c.args.state.now.policy) (server_state c.callers.state.policy c.callers.waiting (owed_in c.callers.state.tally.transfers)) (server_state c.serve_next.new.state.policy c.serve_next.new.waiting (owed_in c.serve_next.new.state.tally.transfers))
    None c.callers.waiting c.serve_next.new.waiting true c.args.store.now c.callers.store c.serve_next.new.store
    c.args.machine.now c.callers.machine c.serve_next.new.machine 0 c.callers.state.begun c.serve_next.new.state.begun c.callers.invariant.jobs (rw (c.in_ok-operator.was, c.in-Some.is) at c.serve_next.ensures.world)))

pub returns : goal.returns
returns g c = from_failed g.M.Machine g.S.State c.args.state.now.policy (server_state c.callers.state.policy c.callers.waiting (owed_in c.callers.state.tally.transfers)) c.callers.waiting c.args.state.now.most c.callers.state.begun Network c.args.store.now c.callers.store c.args.machine.now c.callers.machine c.callers.invariant.jobs
