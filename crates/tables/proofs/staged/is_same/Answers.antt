use Rattle.tables.proofs.Prelude.{sym, ◌∙◌, is_eq-slice_cmp}
use Rattle.tables.proofs.staged.is_same.Goals as goal

pub returns : goal.returns
returns c = rw (c.as_str.ensures.value, c.as_str-2.ensures.value) at (c.eq.ensures ∙ sym (is_eq-slice_cmp c.as_str.result.now c.as_str-2.result.now))
