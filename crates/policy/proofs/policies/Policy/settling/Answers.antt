use Rattle.policy.proofs.Prelude.{◌∙◌, sym, ap, List, option_map, find, question_view, row_view}
use Rattle.policy.specs.Access.{settles}
use Rattle.policy.specs.declared.rows.Row.{Row}
use Rattle.policy.proofs.Lists.{find-map, option_map-then}
use Rattle.policy.proofs.policies.Policy.settling.Goals as goal

pub returns : goal.returns
returns c =
    let test = settles (question_view c.args.question.now) in
    option_map-then (λ row. row.now) row_view c.first_settling.result
    ∙ ap (option_map row_view) (c.first_settling.ensures ∙ ap (λ (rows : List Row). find (λ row. test (row_view row)) rows) c.deref.ensures.value)
    ∙ sym (find-map test row_view c.args.self.now.rows.items)
