-- When a client is ready for its turn.
use Rattle.std.specs.Prelude.{ℕ, Bool, true, false, ◌&&◌, ◌||◌, nat_lt, nat_le}
use Rattle.connections.specs.declared.extent.Extent.{Extent}
use Rattle.connections.specs.declared.extent.Extent.TheVariants as extents
use Rattle.connections.specs.Messages.{begins_early, turn_size}

-- whether a turn may begin after n bytes have arrived: they begin with a message that is complete or whose client has ended,
-- with the complete head of an upload of more than 80 KiB, or with what is refused
abbrev pub is_ready : Extent → Bool → ℕ → Bool
is_ready extents.Head ended arrived = false
is_ready (extents.Message head body kind) ended arrived =
    let size = turn_size (extents.Message head body kind) in
    ended || (begins_early kind && nat_lt 81920 size) || nat_le size arrived
is_ready extents.Refused ended arrived = true
