use Rattle.policy.proofs.Prelude.{◌≤◌, take, question_view}
use Rattle.policy.specs.Index.{IsFound, NoneBefore}
use Rattle.policy.specs.Searches.{rows_in}
use Rattle.policy.proofs.path_index.IndexedRows.least.Given as goal

-- no row before this one in the bucket that holds the ref and the path is before the least
abbrev pub invariant-loop-other : goal.invariant-loop-other
invariant-loop-other l =
    IsFound (question_view l.question) (rows_in l.self) l.least × (l.least ≤ l.position)
    × NoneBefore (question_view l.question) (rows_in l.self) l.least (take l.other-index l.other-items)
