use Rattle.operator.proofs.Prelude.{text_of, ◌≡◌, take}
use Rattle.operator.specs.Printed.{token_lines}
use Rattle.operator.proofs.listing_tokens.lines_of.Given as goal

abbrev pub invariant-loop-row : goal.invariant-loop-row
invariant-loop-row l = text_of l.lines ≡ token_lines l.fn.destination (take l.row-index l.rows)
