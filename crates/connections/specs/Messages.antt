-- How long the messages of a connection are.
use Rattle.std.specs.Prelude.{ℕ, ◌+◌, min, Bool, true, false}
use Rattle.connections.specs.declared.extent.Extent.{Extent}
use Rattle.connections.specs.declared.extent.Extent.TheVariants as extents
use Rattle.connections.specs.declared.extent.MessageKind.{MessageKind}
use Rattle.connections.specs.declared.extent.MessageKind.TheVariants as messages

-- how many bytes a turn hands out: those of the message, or all if they are refused
abbrev pub turn_size : Extent → ℕ
turn_size extents.Head = 0
turn_size (extents.Message head body kind) = min (body + head) 18446744073709551615
turn_size extents.Refused = 18446744073709551615

-- whether a turn may begin when the head of a long message has arrived: only that of an upload
abbrev pub begins_early : MessageKind → Bool
begins_early messages.Short = false
begins_early messages.Upload = true
begins_early messages.Download = false
