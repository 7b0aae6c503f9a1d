use Rattle.routes.proofs.Prelude.{ap, sym, ◌∙◌, rules, map_key}
use Rattle.routes.proofs.Finds.{found-resource}
use Rattle.routes.proofs.table.Routes.resource_at.Goals as goal

pub returns-in-Ok : goal.returns-in-Ok
returns-in-Ok c =
    sym (ap (map_key (λ route. route.value)) c.in-Ok.ensures.found) ∙ found-resource c.args.self.now.router c.args.path.now (λ i. search rules) c.args.self.now.rows

pub returns-in-Err : goal.returns-in-Err
returns-in-Err c =
    sym (ap (map_key (λ route. route.value)) c.in-Err.ensures.missing) ∙ found-resource c.args.self.now.router c.args.path.now (λ i. search rules) c.args.self.now.rows
