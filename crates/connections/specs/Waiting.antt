-- How long a connection waits for its client, in nanoseconds.
use Rattle.std.specs.Prelude.{ℕ, ◌+◌, ◌-◌, ◌*◌, ◌/◌, min, nat_lt, Bool, Option, Some, None}
use Rattle.std.specs.Time.{instant_nanos}
use Rattle.std.specs.declared.time.Instant.{Instant}

-- a second, in nanoseconds
abbrev pub second : ℕ
second = 1000000000

-- the longest pause within a message or a reply, and the time that it may take however few bytes it has
abbrev pub grace : ℕ
grace = 30 * second

-- the time that a message or a reply may take, of which `moved` bytes were read or written: 30 seconds, and one more for each 16 KiB
abbrev pub whole_time : ℕ → ℕ
whole_time moved = (30 + moved / 16384) * second

-- how long the next read or write may wait, after this time and this number of bytes
abbrev pub allowance : ℕ → ℕ → ℕ
allowance elapsed moved = min (whole_time moved - elapsed) grace

-- how long a message or a reply had taken at a moment, if it had begun
abbrev pub elapsed : Option Instant → Instant → ℕ
elapsed (Some begun) at = instant_nanos at - instant_nanos begun
elapsed None at = 0

-- whether a read or a write that began at `start` may still wait, of a message or a reply that began then, and of which `moved` bytes
-- were read or written
abbrev pub may_wait : (begun : Option Instant) → (moved : ℕ) → (start now : Instant) → Bool
may_wait begun moved start now = nat_lt (instant_nanos now - instant_nanos start) (allowance (elapsed begun start) moved)

-- whether the next message of a client that sends nothing since a moment may still arrive: within the message as within a turn,
-- and else for as long as a client may idle
abbrev pub may_arrive : (begun : Option Instant) → (moved : ℕ) → (since now : Instant) → (idle : ℕ) → Bool
may_arrive (Some begun) moved since now idle = may_wait (Some begun) moved since now
may_arrive None moved since now idle = nat_lt (instant_nanos now - instant_nanos since) idle
