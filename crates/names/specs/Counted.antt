-- The contents of a counted reader or writer.
use Rattle.std.specs.Prelude.{◌≡◌, ℕ, nat_eq, nat_lt, cond, ◌||◌, Result, Ok, Err, MatchResult}
use Rattle.names.specs.Streams.{HasGrown}
use Rattle.names.specs.declared.counted.Counted.{Counted}
use Rattle.names.specs.declared.streams.DeviceFault.{DeviceFault}

-- the reader or the writer
abbrev pub device : {T : Type 0} → Counted T → T
device counted = counted.inner

-- the number of bytes it has returned
abbrev pub handed_out : {T : Type 0} → Counted T → ℕ
handed_out counted = counted.handed_out

-- the number of its failed calls
abbrev pub failures : {T : Type 0} → Counted T → ℕ
failures counted = counted.failures

-- the device failed
abbrev pub fault : DeviceFault
fault = record {}

-- a fault is counted once, and a success is not counted
abbrev pub Counts : ℕ → ℕ → Result ℕ DeviceFault → Type 0
Counts old new result = MatchResult result (λ _. new ≡ old) (λ _. HasGrown old new)

-- the result of a read for which the reader reported this: an error is a fault
abbrev pub read_of : {E : Type 0} → Result ℕ E → Result ℕ DeviceFault
read_of (Ok n) = Ok n
read_of (Err e) = Err fault

-- the result of a write of this many bytes for which the writer reported this: an error is a fault, and so is 0 bytes of some
abbrev pub write_of : {E : Type 0} → ℕ → Result ℕ E → Result ℕ DeviceFault
write_of offered (Ok n) = cond (nat_lt 0 n || nat_eq offered 0) (Ok n) (Err fault)
write_of offered (Err e) = Err fault
