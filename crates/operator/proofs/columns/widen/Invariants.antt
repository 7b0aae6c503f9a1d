use Rattle.std.proofs.Common.{◌≡◌, ℕ, ◌<◌, ◌≤◌, max, [], get_or, length, map, string_bytes}
use Rattle.operator.proofs.columns.widen.Given as goal

abbrev pub invariant-loop-column : goal.invariant-loop-column
invariant-loop-column l = record {
  long : length l.widths ≡ 8;
  done : (k : ℕ) → k < l.column → get_or l.widths k 0 ≡ max (get_or l.fn.widths k 0) (length (get_or (map string_bytes l.row) k []));
  left : (k : ℕ) → l.column ≤ k → get_or l.widths k 0 ≡ get_or l.fn.widths k 0;
}
