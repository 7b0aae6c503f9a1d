use Rattle.std.proofs.Common.{◌≡◌, map, take, string_bytes}
use Rattle.operator.specs.Columns.{widths_of}
use Rattle.operator.proofs.columns.widths_of.Given as goal

abbrev pub invariant-loop-row : goal.invariant-loop-row
invariant-loop-row l = l.widths ≡ widths_of (map (map string_bytes) (take l.row-index l.rows))
