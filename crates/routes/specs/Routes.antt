-- A route, in the terms of the definitions.
use Rattle.std.specs.Prelude.{◌∷◌, ◌++◌}
use Rattle.names.specs.Texts.{slash}
use Rattle.model.specs.Heads as model
use Rattle.routes.specs.declared.table.Route.{Route}
use Rattle.routes.specs.Table.{row_of}

-- owner/name, the parameter, and the row of the table
abbrev pub route_seen : Route → model.Route
route_seen route = record {
  repo = route.owner.now ++ slash ∷ route.name.now;
  parameter = route.parameter.now;
  row = row_of route.resource;
}
