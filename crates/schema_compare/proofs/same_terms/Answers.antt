use Rattle.std.proofs.Common.{◌≡◌, sym, ap, ◌∙◌}
use Rattle.std.specs.List.{list_all}
use Rattle.sqlite_schema.specs.Code.{terms_in}
use Rattle.schema_compare.specs.Plain.{is_plain_term}
use Rattle.schema_compare.proofs.same_terms.Goals as goal

pub returns-clause-complete : goal.returns-clause-complete
returns-clause-complete c plain same =
    let left : terms_in c.as_slice.result.now c.as_slice-3.result.now ≡ c.args.a.now = rw (c.as_slice.ensures, c.as_slice-3.ensures) c.a.view_is in
    let right : terms_in c.as_slice-2.result.now c.as_slice-4.result.now ≡ c.args.b.now = rw (c.as_slice-2.ensures, c.as_slice-4.ensures) c.b.view_is in
    c.same_terms_at.ensures.complete (ap (list_all is_plain_term) left ∙ plain) (left ∙ same ∙ sym right)
