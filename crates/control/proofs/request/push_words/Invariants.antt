use Rattle.std.proofs.Common.{◌≡◌, ◌++◌, map, take, flat_map, string_bytes}
use Rattle.control.specs.Fields.{field}
use Rattle.control.proofs.request.push_words.Given as goal

abbrev pub invariant-loop-word : goal.invariant-loop-word
invariant-loop-word l =
    l.bytes.items ≡ l.fn.bytes.items ++ flat_map field (map string_bytes (take l.word-index l.words))
