use Rattle.policy.proofs.Prelude.{◌∙◌, ap, map, Some, view}
use Rattle.policy.proofs.Documents.{as_values-from}
use Rattle.policy.proofs.tables.as_values.Goals as goal

pub returns-in-Some : goal.returns-in-Some
returns-in-Some c =
    ap (λ values. Some (map view values)) c.as_slice.ensures.value
    ∙ as_values-from (view c.args.value.now) c.in-Some.values.now.items (rw c.in-Some.is at c.as_array.ensures)
