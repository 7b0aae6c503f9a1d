use Rattle.std.proofs.Common.{◌≡◌, drop, map, string_bytes}
use Rattle.command_line.specs.Flags.{is_given}
use Rattle.command_line.proofs.flags.is_given.Given as goal

-- no word before this one decides
abbrev pub invariant-loop-word : goal.invariant-loop-word
invariant-loop-word l =
    is_given l.flag (map string_bytes l.args) ≡ is_given l.flag (map string_bytes (drop l.word-index l.args))
