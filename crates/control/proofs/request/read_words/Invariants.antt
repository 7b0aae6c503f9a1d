use Rattle.std.proofs.Common.{◌≡◌, ◌++◌, ◌≤◌, length, map, flat_map, string_bytes, vec_len}
use Rattle.control.specs.Fields.{field}
use Rattle.control.specs.Requests.{most_words}
use Rattle.control.proofs.request.read_words.Given as goal

abbrev pub invariant-loop-rest : goal.invariant-loop-rest
invariant-loop-rest l =
    (vec_len l.words ≤ most_words)
    × (l.fn.bytes ≡ flat_map field (map string_bytes l.words.items) ++ l.rest)

abbrev pub decreases-loop-rest : goal.decreases-loop-rest
decreases-loop-rest l = length l.rest
