use Rattle.tables.proofs.Prelude.{sym, ◌∙◌, is_eq-slice_cmp}
use Rattle.tables.proofs.uploads.is_same_name.Goals as goal

pub returns : goal.returns
returns c = rw (c.text.ensures.value, c.text-2.ensures.value) at (c.eq.ensures ∙ sym (is_eq-slice_cmp c.text.result.now c.text-2.result.now))
