use Rattle.operator.proofs.Prelude.{text_of, ◌≡◌, flat_map, take}
use Rattle.operator.proofs.Printed.{row_line}
use Rattle.operator.proofs.listing_objects.lines_of.Given as goal

abbrev pub invariant-loop-row : goal.invariant-loop-row
invariant-loop-row l = text_of l.lines ≡ flat_map row_line (take l.row-index l.rows)
