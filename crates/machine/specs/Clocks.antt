-- The moment of a clock.
use Rattle.std.specs.Prelude.{ℕ, ◌/◌, nat_le, Option, Some, None, if◌then◌else◌}
use Rattle.names.specs.Texts.{last_moment}

-- the moment of a clock that shows this many nanoseconds after 1970: its whole seconds
abbrev pub moment_at : ℕ → Option ℕ
moment_at nanos = if nat_le (nanos / 1000000000) last_moment then Some (nanos / 1000000000) else None
