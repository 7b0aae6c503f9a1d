use Rattle.policy.proofs.Prelude.{◌∙◌, refl, ap, List, map, option_map, ref_text, path_text, question_on, question_view, numbered_view}
use Rattle.std.specs.Prelude.{slice_get}
use Rattle.policy.specs.declared.numbered.NumberedRow.{NumberedRow}
use Rattle.policy.specs.Index.{decision_of}
use Rattle.policy.specs.Searches.{rows_in}
use Rattle.policy.proofs.Applying.{chosen_decide}
use Rattle.policy.proofs.Indexed.{first_decides}
use Rattle.policy.proofs.applicable.ApplicableRows.decide.Goals as goal

pub returns : goal.returns
returns c =
    let rows = c.args.self.now in
    let n = c.first.result in
    let ref = option_map (λ name. ref_text name.now) c.args.ref_name in
    let path = option_map (λ path. path_text path.now) c.args.path in
    let read = λ (r : List NumberedRow). decision_of (slice_get (map numbered_view r) n) in
    c.verdict_at.ensures ∙ ap read c.deref.ensures.value
    ∙ first_decides (question_on (question_view rows.question) ref path) (rows_in rows.indexed) n c.first.ensures
    ∙ chosen_decide rows ref path rows.indexed.rows.items refl
