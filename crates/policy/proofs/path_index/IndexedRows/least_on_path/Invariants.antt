use Rattle.policy.proofs.Prelude.{◌≡◌, ◌≤◌, ◌<◌, ◌+◌, ℕ, take, get_or, question_view}
use Rattle.policy.specs.Index.{hashed, bucket_of, IsFound, NoneBefore}
use Rattle.policy.specs.Searches.{rows_in, buckets_in}
use Rattle.policy.proofs.path_index.IndexedRows.least_on_path.Given as goal

-- the buckets of the folders that end before this byte were searched
abbrev pub invariant-loop-byte : goal.invariant-loop-byte
invariant-loop-byte l =
    let q = question_view l.question in
    IsFound q (rows_in l.self) l.least × (l.least ≤ l.position) × (l.hash ≡ hashed 0 (take l.byte-index l.path))
    × ((i : ℕ) → i < l.byte-index → get_or l.path i 0 ≡ 47
    → NoneBefore q (rows_in l.self) l.least (bucket_of (buckets_in l.self) (hashed 0 (take (i + 1) l.path))))
