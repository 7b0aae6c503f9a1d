-- Reading comes to an end: each window begins at a later id.
use Rattle.cursor.proofs.Prelude.{◌-◌, ℕ, suc, Option, Some, None}

-- how many ids are left to begin at, at most
abbrev pub ids_left : Option ℕ → ℕ
ids_left None = 0
ids_left (Some start) = suc (4294967296 - start)
