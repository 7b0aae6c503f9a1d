-- The end of reading a head.
use Rattle.std.specs.Prelude.{ℕ, List, drop, Option}
use Rattle.std.specs.Io.KnownBytes.{IsAtEnd}
use Rattle.httparse.specs.Grammar.{RequestHead, MayBecomeRequest}
use Rattle.httparse.specs.declared.spans.HeaderSpan.{HeaderSpan}
use Rattle.httparse.specs.declared.spans.RequestSpans.{RequestSpans}
use Rattle.names.specs.Streams.{HasGrown}
use Rattle.model.specs.Stream.{IsUnfinished, BeginsBadly, BeginsWithHead}
use Rattle.wire.specs.Cut.{Covers}
use Rattle.wire.specs.declared.cut.Cut.{Cut}
use Rattle.wire.specs.declared.cut.Cut.TheVariants.{Head, Unfinished}
use Rattle.wire.specs.declared.cut.Cut.TheVariants as cut
use Rattle.wire.specs.declared.reading.Halt.{Halt}
use Rattle.wire.specs.declared.reading.Halt.TheVariants.{End, Bad, Device}

-- the bytes begin with the head that the spans cover
abbrev pub IsHeadOf : List ℕ → List HeaderSpan → RequestSpans → Type 0
IsHeadOf bytes fields spans =
    (head : RequestHead) × BeginsWithHead bytes head (drop spans.len bytes) × Covers bytes fields spans head

-- more bytes may complete the bytes to a head
abbrev pub MayGoOn : List ℕ → Type 0
MayGoOn bytes = IsUnfinished bytes × MayBecomeRequest bytes

-- the head at the front of the bytes, a bad one, or an incomplete one that more bytes may complete
abbrev pub IsCutOf : List ℕ → List HeaderSpan → Cut → Type 0
IsCutOf bytes fields (Head spans) = IsHeadOf bytes fields spans
IsCutOf bytes fields cut.Bad = BeginsBadly bytes
IsCutOf bytes fields Unfinished = MayGoOn bytes

-- why there is no head, by the bytes that were read, what the source has left, and its failed reads before and after
abbrev pub HasHalted : Halt → List ℕ → Option (List ℕ) → ℕ → ℕ → Type 0
HasHalted End bytes left was is = MayGoOn bytes × IsAtEnd left
HasHalted Bad bytes left was is = BeginsBadly bytes
HasHalted Device bytes left was is = MayGoOn bytes × HasGrown was is
