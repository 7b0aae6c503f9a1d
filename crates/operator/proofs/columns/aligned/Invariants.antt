use Rattle.std.proofs.Common.{◌≡◌, ◌++◌, drop, map, string_bytes}
use Rattle.operator.specs.Columns.{aligned, to_right}
use Rattle.operator.proofs.columns.aligned.Given as goal

abbrev pub invariant-loop-column : goal.invariant-loop-column
invariant-loop-column l =
    string_bytes l.line ++ to_right (drop l.column l.widths) (drop l.column (map string_bytes l.row)) ≡ aligned l.widths (map string_bytes l.row)
