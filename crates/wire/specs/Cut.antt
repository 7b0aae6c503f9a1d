-- The head at the front of a stream.
use Rattle.std.specs.Prelude.{◌≡◌, ℕ, ◌<◌, List, length, take, drop}
use Rattle.httparse.specs.Grammar.{RequestHead, MayBecomeRequest}
use Rattle.httparse.specs.Spans.{span_bytes, IsRequestWithin, AreFieldsAt}
use Rattle.httparse.specs.declared.spans.HeaderSpan.{HeaderSpan}
use Rattle.httparse.specs.declared.spans.RequestSpans.{RequestSpans}
use Rattle.model.specs.Stream.{BeginsWithHead, BeginsBadly, HasNoHead, head_limit}
use Rattle.wire.specs.declared.cut.Cut.{Cut}
use Rattle.wire.specs.declared.cut.Cut.TheVariants.{Head, Bad, Unfinished}

-- the spans lie in the bytes, and cover the parts of that head
pub record Covers (bytes : List ℕ) (fields : List HeaderSpan) (spans : RequestSpans) (head : RequestHead) : Type 0 where
  pub within : IsRequestWithin bytes fields spans
  pub method : span_bytes bytes spans.method ≡ head.method
  pub path : span_bytes bytes spans.path ≡ head.target
  pub version : spans.version ≡ head.minor
  pub fields_are : AreFieldsAt bytes fields spans.headers head.fields

-- the head at the front of the bytes, a bad one, or an incomplete one that more bytes may complete
abbrev pub IsCut : List ℕ → List HeaderSpan → Cut → Type 0
IsCut bytes fields (Head spans) =
    (head : RequestHead) × BeginsWithHead bytes head (drop spans.len bytes) × Covers (take head_limit bytes) fields spans head
IsCut bytes fields Bad = BeginsBadly bytes
IsCut bytes fields Unfinished = HasNoHead bytes × (length bytes < head_limit) × MayBecomeRequest bytes
