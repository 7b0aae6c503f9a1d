-- To what a server leads its store; for proofs in other crates too.
use Rattle.std.proofs.Common.{List, []}
use Rattle.store.specs.declared.state.State.{Ghosts}
use Rattle.policy.specs.declared.policies.Policy.{Policy}
use Rattle.model.specs.World.{World}
use Rattle.refinement.specs.Left.{From}
use Rattle.refinement.proofs.Leading.{leads_none}
use Rattle.operator.proofs.Working.{still_kept, still_steps, works_still}
use Rattle.machine.specs.declared.machine.Machine as machine
use Rattle.server.specs.Jobs.{Job, Serves, ServesAll, first_state}

module _ {S : Type 0} (g : Ghosts S) where
  -- no job
  pub all_none : (policy : Policy) (a : S) → From g a a (λ world. ServesAll g policy a a world)
  all_none policy a = record {
    honest = λ k. k;
    each = λ honest world h.
        let lead = leads_none g a world h in
        record { jobs = []; done = works_still g a a world lead; are_jobs = still_kept g a a world lead; steps = still_steps g a a world lead };
  }

  -- the jobs of a server on a machine
  pub all_jobs : {M : Type 0} (m : machine.Ghosts M) (policy : Policy) (a b : S) (u v : M) (world : World) (jobs : List Job) → Serves m g (first_state policy) a b u v world jobs → ServesAll g policy a b world
  all_jobs m policy a b u v world jobs s = record { jobs = jobs; done = s.done; are_jobs = s.are_jobs; steps = s.steps }
