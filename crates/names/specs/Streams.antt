-- The effects of reads and writes, if the bytes are known.
use Rattle.std.specs.Prelude.{◌≡◌, ℕ, ◌+◌, ◌-◌, ◌<◌, ◌^◌, min, length, List, Option, take, option_map}
use Rattle.std.specs.Io.KnownBytes.{Appends}

-- the most bytes that a source returns in its life
abbrev pub most_handed_out : ℕ
most_handed_out = 1099511627776

-- a source returns fewer bytes than this
abbrev pub most_counted : ℕ
most_counted = 2 ^ 63

-- a count of failures went up by one, or stays at its maximum
abbrev pub HasGrown : ℕ → ℕ → Type 0
HasGrown old new = new ≡ min (old + 1) (2 ^ 64 - 1)

-- the known bytes, cut to at most this many
abbrev pub cap_known : ℕ → Option (List ℕ) → Option (List ℕ)
cap_known most known = option_map (take most) known

-- this many bytes from the front of the text were taken, and not all of it
pub record IsBeginning (old new : Option (List ℕ)) (text : List ℕ) (written : ℕ) : Type 0 where
  pub less : written < length text
  pub taken : Appends old new (take written text)
