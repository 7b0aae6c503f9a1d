use Rattle.tables.proofs.Prelude.{◌≡◌, List, map, take, AllByRecursion, Upload, show_upload, IsLast}
use Rattle.tables.proofs.staged.all_remembered.Given as goal

abbrev pub invariant-loop-row : goal.invariant-loop-row
invariant-loop-row l = (uploads : List Upload) → l.rows ≡ map show_upload uploads → AllByRecursion (IsLast l.known.items) (take l.row-index uploads)
