use Rattle.tables.proofs.Prelude.{◌≡◌, List, map, take, Lock, show_lock, lock_fields, read_lock}
use Rattle.tables.proofs.rows.all_locks.Given as goal

abbrev pub invariant-loop-row : goal.invariant-loop-row
invariant-loop-row l = (locks : List Lock) → l.rows ≡ map show_lock locks → map read_lock l.found.items ≡ map lock_fields (take l.row-index locks)
