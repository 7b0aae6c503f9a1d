use Rattle.tables.proofs.Prelude.{◌≡◌, List, map, take, Upload, show_upload}
use Rattle.tables.specs.Discarding.{sizes_sum}
use Rattle.tables.proofs.discarding.sum_of.Given as goal

abbrev pub invariant-loop-row : goal.invariant-loop-row
invariant-loop-row l = (us : List Upload) → l.rows ≡ map show_upload us → l.sum ≡ sizes_sum (take l.row-index us)
