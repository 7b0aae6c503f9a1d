use Rattle.cursor.proofs.Prelude.{◌≡◌, ℕ, List, map, take, lock_seen}
use Rattle.cursor.proofs.copies.copies_of.Given as goal

-- the copies are those of the rows so far
abbrev pub invariant-loop-row : goal.invariant-loop-row
invariant-loop-row l = (repo : List ℕ) → map (lock_seen repo) l.copies.items ≡ map (lock_seen repo) (take l.row-index l.rows)
