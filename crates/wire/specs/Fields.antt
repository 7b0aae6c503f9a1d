-- The fields of a head, read from the bytes that it was found in.
use Rattle.std.specs.Prelude.{ℕ, Bool, ◌&&◌, nat_le, List, [], length, map, filter, take, if◌then◌else◌, codes, ◌==◌}
use Rattle.std.specs.List.{list_any, slice_split}
use Rattle.std.specs.Str.{str_eq_ignore_ascii_case}
use Rattle.httparse.specs.Ascii.{comma}
use Rattle.httparse.specs.Spans.{span_bytes}
use Rattle.httparse.specs.Grammar.{RequestHead, trim_ows}
use Rattle.httparse.specs.declared.spans.Span.{Span}
use Rattle.httparse.specs.declared.spans.HeaderSpan.{HeaderSpan}
use Rattle.wire.specs.Cut.{Covers}
use Rattle.wire.specs.declared.head.Head.{Head}

-- ---- the parts of a `Head` value

-- the bytes that the head lies in
abbrev pub head_bytes : Head → List ℕ
head_bytes h = h.bytes.now

-- the spans of its fields; `fields` may hold more
abbrev pub field_spans : Head → List HeaderSpan
field_spans h = take h.spans.headers h.fields.now

-- the value represents this head
abbrev pub Shows : Head → RequestHead → Type 0
Shows h head = Covers h.bytes.now h.fields.now h.spans head

-- ---- spans

-- the bytes that the span covers; empty if it reaches past the end
abbrev pub bytes_of_span : List ℕ → Span → List ℕ
bytes_of_span bytes span =
    if nat_le span.start span.end && nat_le span.end (length bytes) then span_bytes bytes span else []

-- the field has that name, in any case
abbrev pub is_named : List ℕ → List ℕ → HeaderSpan → Bool
is_named bytes name field = str_eq_ignore_ascii_case (bytes_of_span bytes field.name) name

-- the values of the fields with that name
abbrev pub values_at : List ℕ → List HeaderSpan → List ℕ → List (List ℕ)
values_at bytes fields name = map (λ (f : HeaderSpan). bytes_of_span bytes f.value) (filter (is_named bytes name) fields)

-- the values of the fields with that name, as the `Head` value has them
abbrev pub values_shown : Head → List ℕ → List (List ℕ)
values_shown h name = values_at (head_bytes h) (field_spans h) name

-- ---- Connection: close (RFC 9110, Connection)

-- an item of a list is close, in any case
abbrev pub is_close : List ℕ → Bool
is_close item = str_eq_ignore_ascii_case (codes "close") (trim_ows item)

-- one of the comma-separated items is close
abbrev pub lists_close : List ℕ → Bool
lists_close value = list_any is_close (slice_split (λ b. b == comma) value)

-- a Connection field that lists close
abbrev pub is_closing_field : List ℕ → HeaderSpan → Bool
is_closing_field bytes field = is_named bytes (codes "connection") field && lists_close (bytes_of_span bytes field.value)
