use Rattle.operator.proofs.Prelude.{line, text_of, ◌≡◌, ◌∷◌, flat_map, map, take, string_bytes}
use Rattle.operator.specs.Columns.{aligned}
use Rattle.operator.proofs.columns.lines_of.Given as goal

abbrev pub invariant-loop-row : goal.invariant-loop-row
invariant-loop-row l =
    text_of l.lines ≡ flat_map (λ row. line (aligned l.widths row)) (map string_bytes l.headings ∷ map (map string_bytes) (take l.row-index l.rows))
