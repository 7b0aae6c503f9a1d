use Rattle.std.proofs.Common.{◌≡◌, ◌++◌, ◌≤◌, length, map, take, flat_map, string_bytes}
use Rattle.control.specs.Fields.{field}
use Rattle.control.specs.Requests.{longest_request}
use Rattle.control.proofs.request.body_size.Given as goal

abbrev pub invariant-loop-word : goal.invariant-loop-word
invariant-loop-word l =
    (l.size ≡ length (field l.input ++ flat_map field (map string_bytes (take l.word-index l.words))))
    × (l.size ≤ longest_request)
