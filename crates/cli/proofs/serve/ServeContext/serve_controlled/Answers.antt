use Rattle.server.proofs.Leading.{all_none}
use Rattle.cli.proofs.serve.ServeContext.serve_controlled.Goals as goal

pub returns-in_default-clause-world : goal.returns-in_default-clause-world
returns-in_default-clause-world g c = all_none g.S.State c.args.policy c.args.store.now
