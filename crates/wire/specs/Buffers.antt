-- The bytes of a buffer.
use Rattle.std.specs.Prelude.{ℕ, List, take, drop}
use Rattle.wire.specs.declared.buffer.Buffer.{Buffer}

-- all bytes that were read since the message began
abbrev pub front : Buffer → List ℕ
front b = take b.end b.bytes.items

-- those of them that were not handed out
abbrev pub unused : Buffer → List ℕ
unused b = drop b.at (front b)
