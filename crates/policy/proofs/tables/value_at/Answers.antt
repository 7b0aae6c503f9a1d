use Rattle.policy.proofs.Prelude.{◌∙◌, ap, get_member, table_view}
use Rattle.toml.proofs.Views.{table_get}
use Rattle.policy.proofs.tables.value_at.Goals as goal

pub returns : goal.returns
returns c =
    table_get c.get.result c.name.result.now c.args.table.now.entries c.get.ensures.value
    ∙ ap (λ name. get_member name (table_view c.args.table.now)) c.name.ensures
