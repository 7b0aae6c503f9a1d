-- What was written to a client, and is not sent yet.
use Rattle.std.specs.Prelude.{ℕ, List, drop}
use Rattle.connections.specs.declared.backlog.Backlog.{Backlog}

-- the bytes that are not sent
abbrev pub bytes_left : Backlog → List ℕ
bytes_left backlog = drop backlog.sent backlog.bytes.items
