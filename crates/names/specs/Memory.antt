-- The contents of the sources and sinks in memory.
use Rattle.std.specs.Prelude.{ℕ, List, length, min}
use Rattle.names.specs.declared.memory.SliceSource.{SliceSource}
use Rattle.names.specs.declared.memory.VecSink.{VecSink}
use Rattle.names.specs.declared.memory.FailAfter.{FailAfter}

-- the bytes that are left
abbrev pub slice_left : SliceSource → List ℕ
slice_left source = source.left.now

-- the most bytes that one read returns
abbrev pub most_read : SliceSource → ℕ
most_read source = source.most

-- the number of failed reads: 0
abbrev pub slice_failures : SliceSource → ℕ
slice_failures source = 0

-- the number of bytes that a read returns into a piece of that length
abbrev pub size_of_read : SliceSource → ℕ → ℕ
size_of_read source room = min (min (most_read source) (length (slice_left source))) room

-- the bytes taken so far
abbrev pub vec_taken : VecSink → List ℕ
vec_taken sink = sink.taken.items

-- the number of writes that found no memory
abbrev pub vec_failures : VecSink → ℕ
vec_failures sink = sink.failures

-- the most bytes that one write takes
abbrev pub most_written : VecSink → ℕ
most_written sink = sink.most

-- the number of bytes that a write takes of a piece of that length
abbrev pub size_of_write : VecSink → ℕ → ℕ
size_of_write sink offered = min (most_written sink) offered

-- the source or sink inside
abbrev pub failing : {T : Type 0} → FailAfter T → T
failing device = device.inner

-- the number of calls that still reach it
abbrev pub calls_left : {T : Type 0} → FailAfter T → ℕ
calls_left device = device.calls

-- the number of failed calls
abbrev pub failures_so_far : {T : Type 0} → FailAfter T → ℕ
failures_so_far device = device.failures
