use Rattle.std.proofs.Common.{◌≡◌, ◌++◌, map, take, string_bytes}
use Rattle.command_line.proofs.flags.copy_to.Given as goal

-- these words were added so far
abbrev pub invariant-loop-word : goal.invariant-loop-word
invariant-loop-word l =
    map string_bytes l.words.items ≡ map string_bytes l.initial.words.items ++ map string_bytes (take l.word-index l.more)
