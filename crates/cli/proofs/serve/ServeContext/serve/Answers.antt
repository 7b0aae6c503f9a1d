use Rattle.refinement.proofs.Leading.{from_weaker}
use Rattle.server.proofs.Leading.{all_jobs, all_none}
use Rattle.cli.proofs.serve.ServeContext.serve.Goals as goal

pub returns-in_default-clause-world : goal.returns-in_default-clause-world
returns-in_default-clause-world g c = all_none g.S.State c.args.policy c.args.store.now

pub returns-in_err-print_start-clause-world : goal.returns-in_err-print_start-clause-world
returns-in_err-print_start-clause-world g c = all_none g.S.State c.args.policy c.args.store.now

pub returns-in_err-finish-clause-world : goal.returns-in_err-finish-clause-world
returns-in_err-finish-clause-world g c =
    from_weaker g.S.State c.args.store.now c.run.new.store _ _
    (λ world d. all_jobs g.S.State _ c.args.policy c.args.store.now c.run.new.store _ _ world d.0 d.1) c.run.ensures

pub returns-in_err-print_count-clause-world : goal.returns-in_err-print_count-clause-world
returns-in_err-print_count-clause-world g c =
    from_weaker g.S.State c.args.store.now c.run.new.store _ _
    (λ world d. all_jobs g.S.State _ c.args.policy c.args.store.now c.run.new.store _ _ world d.0 d.1) c.run.ensures

pub returns-clause-world : goal.returns-clause-world
returns-clause-world g c =
    from_weaker g.S.State c.args.store.now c.run.new.store _ _
    (λ world d. all_jobs g.S.State _ c.args.policy c.args.store.now c.run.new.store _ _ world d.0 d.1) c.run.ensures
