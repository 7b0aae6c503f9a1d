use Rattle.operator.proofs.Prelude.{line, text_of, ◌≡◌, [], flat_map, take}
use Rattle.model.specs.Moments.{moment_text}
use Rattle.locks.specs.Finding.{lock_seen}
use Rattle.operator.specs.Escapes.{shown}
use Rattle.operator.specs.Lines.{lock_line}
use Rattle.operator.proofs.listing_locks.lines_of.Given as goal

abbrev pub invariant-loop-row : goal.invariant-loop-row
invariant-loop-row l = text_of l.lines ≡ flat_map (λ row. line (shown l.fn.destination (lock_line (lock_seen [] row) (moment_text row.moment)))) (take l.row-index l.rows)
