use Rattle.policy.proofs.Prelude.{◌∙◌, ◌&&◌, sym, ap, map, held_if_named, pattern_view, question_view, row_view}
use Rattle.policy.proofs.Patterned.{as_spelled}
use Rattle.policy.proofs.numbered.NumberedRow.covers_place.Goals as goal

pub returns-then-hold_if_named : goal.returns-then-hold_if_named
returns-then-hold_if_named c =
    let numbered = c.args.self.now in
    let refs = as_spelled c.deref.result.now _ _ _ _ c.hold_if_named.ensures (ap (map pattern_view) c.deref.ensures.value ∙ numbered.refs_are_of_the_row) c.ref_text.ensures in
    let paths = as_spelled c.deref-then-hold_if_named.result.now _ _ _ _ c.hold_if_named-then-hold_if_named.ensures
    (ap (map pattern_view) c.deref-then-hold_if_named.ensures.value ∙ numbered.paths_are_of_the_row) c.path_text.ensures in
    rw (sym refs ∙ c.if-hold_if_named.true) paths

pub returns-else-hold_if_named : goal.returns-else-hold_if_named
returns-else-hold_if_named c =
    let numbered = c.args.self.now in
    let refs = as_spelled c.deref.result.now _ _ _ _ c.hold_if_named.ensures (ap (map pattern_view) c.deref.ensures.value ∙ numbered.refs_are_of_the_row) c.ref_text.ensures in
    c.if-hold_if_named.false ∙ sym (ap (λ held. held && held_if_named (row_view numbered.row.now).paths (question_view c.args.question.now).path) (sym refs ∙ c.if-hold_if_named.false))
