-- The head at the front of a stream, and at the front of its first bytes.
use Rattle.wire.proofs.Prelude.{◌≡◌, ◌≢◌, ℕ, ◌+◌, ◌-◌, ◌*◌, ◌<◌, ◌≤◌, List, [], ◌∷◌, ◌++◌, length, take, drop, refl, sym, ap, subst, ◌∙◌, inl, inr, append-nil, length-append, length-take, arith, flat_map, take-append-drop, take_all, drop_at, length-map, recursion_from_All, cases_lt, take-append-add, RequestHead, IsRequestHead, ReadsRequest, HasNoRequest, NeverHasRequest, Field, IsField, print_field, print_end, LineEnd, crlf, lf, RequestExceeds, RequestOverflows, AreFieldsAt, header_bytes, name_and_value, IsRequestOf, IsRequestWithin, Covers, HeaderSpan, ReadsRequest-append, IsHeadThen, HasNoHead, NeverIsHead, BeginsBadly, too_many_fields, too_long, hopeless, BeginsWithHead, head_limit, field_limit}
use Rattle.std.proofs.lemmas.List.{length-take-le}
use Rattle.std.specs.List.{AllByRecursion as ByRecursion}
use Rattle.httparse.specs.declared.Error.{Error}
use Rattle.httparse.specs.declared.Error.TheVariants as error
use Rattle.httparse.specs.Grammar.{print_request}
use Rattle.httparse.specs.declared.spans.RequestSpans.{RequestSpans}

pub head_fits : (bytes : List ℕ) (h : RequestHead) (rest : List ℕ) → ReadsRequest bytes h rest → length (print_request h) ≤ length bytes
head_fits bytes h rest r = omega (arith, length-append (print_request h) rest, ap length r.1)

-- a head at the front of the first bytes is one at the front of all
pub reads_all : (n : ℕ) (bytes : List ℕ) (h : RequestHead) (rest : List ℕ) → ReadsRequest (take n bytes) h rest
    → ReadsRequest bytes h (rest ++ drop n bytes)
reads_all n bytes h rest r =
    let P : List ℕ → Type 0 = λ b. ReadsRequest b h (rest ++ drop n bytes) in
    subst P (take-append-drop n bytes) (ReadsRequest-append (take n bytes) h rest (drop n bytes) r)

pub head_of_front : (bytes : List ℕ) (h : RequestHead) (rest : List ℕ) → ReadsRequest (take head_limit bytes) h rest
    → IsHeadThen bytes h (rest ++ drop head_limit bytes)
head_of_front bytes h rest r =
    record { reads = reads_all head_limit bytes h rest r; short = omega (arith, head_fits _ h rest r, length-take head_limit bytes) }

-- if no head is at the front of the first bytes, none is at the front of all
pub no_head : (bytes : List ℕ) → HasNoRequest (take head_limit bytes) → HasNoHead bytes
no_head bytes none h rest is =
    let room : length (print_request h) + (head_limit - length (print_request h)) ≡ head_limit = omega (arith, is.short) in
    let cut : take head_limit bytes ≡ print_request h ++ take (head_limit - length (print_request h)) rest =
    ap (take head_limit) is.reads.1 ∙ ap (λ n. take n (print_request h ++ rest)) (sym room) ∙ take-append-add (print_request h) rest (head_limit - length (print_request h)) in
    none h (take (head_limit - length (print_request h)) rest) (is.reads.0, cut)

end_size : (e : LineEnd) → 1 ≤ length (print_end e)
end_size crlf = omega arith
end_size lf = omega arith

field_size : (f : Field) → IsField f → 3 ≤ length (print_field f)
field_size f is = simp length-append (omega (arith, end_size f.end, is.name.0))

fields_size : (fs : List Field) → ByRecursion IsField fs → 3 * length fs ≤ length (flat_map print_field fs)
fields_size [] is = omega arith
fields_size (f ∷ fs) is = rw (length-append (print_field f) (flat_map print_field fs)) (omega (arith, fields_size fs is.1, field_size f is.0))

-- each field takes at least three bytes
pub head_size : (h : RequestHead) → IsRequestHead h → 3 * length h.fields ≤ length (print_request h)
unfolding print_request
head_size h is =
    simp length-append (omega (arith, fields_size h.fields (recursion_from_All IsField h.fields is.fields)))

-- so the room is enough for any head of 16,384 bytes
pub never_exceeds : (bytes : List ℕ) (room : ℕ) → 5461 ≤ room → length bytes ≤ head_limit → RequestExceeds room bytes → ⊥
never_exceeds bytes room enough short x =
    let whole : length (x.0 ++ print_end lf) ≡ length (print_request x.3 ++ []) = ap length x.4.1 in
    omega (arith, head_size x.3 x.4.0, x.5, simp (length-append, append-nil) at whole, ap length x.2, length-append x.0 x.1)

-- ---- the results

pub bad_for_fields : (bytes : List ℕ) (h : RequestHead) (rest : List ℕ) → ReadsRequest (take head_limit bytes) h rest
    → field_limit < length h.fields → BeginsBadly bytes
bad_for_fields bytes h rest r many = too_many_fields h (rest ++ drop head_limit bytes) (head_of_front bytes h rest r) many

-- the same if every head at the front of the first bytes has too many fields
pub bad_of_many : (bytes front : List ℕ) (h : RequestHead) (rest : List ℕ) → front ≡ take head_limit bytes
    → ((head : RequestHead) (rest : List ℕ) → ReadsRequest (take head_limit bytes) head rest → field_limit < length head.fields)
    → ReadsRequest front h rest → BeginsBadly bytes
bad_of_many bytes front h rest e many r =
    let is : ReadsRequest (take head_limit bytes) h rest = subst (λ (b : List ℕ). ReadsRequest b h rest) e r in
    bad_for_fields bytes h rest is (many h rest is)

-- a parser that overflowed its room would have found each head with fewer fields
pub many_of_overflow : (bytes front : List ℕ) (room : ℕ) → front ≡ take head_limit bytes → field_limit ≤ room → RequestOverflows room front
    → (head : RequestHead) (rest : List ℕ) → ReadsRequest (take head_limit bytes) head rest → field_limit < length head.fields
many_of_overflow bytes front room e enough over head rest r =
    let is : ReadsRequest (front ++ []) head rest = subst (λ (b : List ℕ). ReadsRequest b head rest) (sym (append-nil front ∙ e)) r in
    omega (arith, over [] head rest is)

pub bad_for_size : (bytes : List ℕ) → HasNoRequest (take head_limit bytes) → head_limit ≤ length bytes → BeginsBadly bytes
bad_for_size bytes none long = too_long (no_head bytes none) long

pub never_head : (bytes : List ℕ) → NeverHasRequest bytes → NeverIsHead bytes
never_head bytes never more h is = never more h [] is.reads

pub never_none : (bytes : List ℕ) → NeverHasRequest bytes → HasNoRequest bytes
never_none bytes never h rest r = never [] h (rest ++ []) (ReadsRequest-append bytes h rest [] r)

pub bad_for_bytes : (bytes : List ℕ) → NeverHasRequest (take head_limit bytes) → BeginsBadly bytes
bad_for_bytes bytes never = elim (cases_lt (length bytes) head_limit) [
  | inr long ↦ bad_for_size bytes (never_none _ never) long
  | inl short ↦ hopeless (no_head bytes (never_none _ never)) (never_head bytes (subst NeverHasRequest (take_all head_limit bytes (omega arith)) never))
]

pub bad_for_err : (bytes : List ℕ) (room : ℕ) (e : Error) → 5461 ≤ room
    → (e ≢ error.TooManyHeaders → NeverHasRequest (take head_limit bytes))
    → (e ≡ error.TooManyHeaders → RequestExceeds room (take head_limit bytes)) → BeginsBadly bytes
bad_for_err bytes room error.TooManyHeaders enough never many =
    absurd (never_exceeds (take head_limit bytes) room enough (omega (arith, length-take head_limit bytes)) (many refl))
bad_for_err bytes room _ enough never many = bad_for_bytes bytes (never (λ e. cc))

-- the head and its place, from the parser's result on the first bytes
pub begins_with : (bytes : List ℕ) (h : RequestHead) (len : ℕ) → ReadsRequest (take head_limit bytes) h (drop len (take head_limit bytes))
    → len ≡ length (print_request h) → length h.fields ≤ field_limit → BeginsWithHead bytes h (drop len bytes)
begins_with bytes h len r is few =
    let all = head_of_front bytes h _ r in
    let P : List ℕ → Type 0 = λ rest. ReadsRequest bytes h rest in
    let after : drop len bytes ≡ drop len (take head_limit bytes) ++ drop head_limit bytes =
    ap (drop len) all.reads.1 ∙ drop_at (print_request h) (drop len (take head_limit bytes) ++ drop head_limit bytes) len (sym is) in
    record { reads = record { reads = subst P (sym after) all.reads; short = all.short }; fields = few }

pub count_fields : (buf : List ℕ) (headers : List HeaderSpan) (count : ℕ) (fs : List Field) → count ≤ length headers
    → AreFieldsAt buf headers count fs → count ≡ length fs
count_fields buf headers count fs room are =
    sym (length-take-le count headers room) ∙ sym (length-map (take count headers) (header_bytes buf)) ∙ ap length are ∙ length-map fs name_and_value

many_of : (bytes : List ℕ) (hs : List HeaderSpan) (spans : RequestSpans)
    → IsRequestOf (take head_limit bytes) hs spans → IsRequestWithin (take head_limit bytes) hs spans → field_limit < spans.headers → BeginsBadly bytes
many_of bytes hs spans x w many =
    bad_for_fields bytes x.0 _ x.1.reads (omega (arith, count_fields _ hs spans.headers x.0.fields w.section.count_fits x.1.fields))

pub many_found : (bytes front : List ℕ) (hs : List HeaderSpan) (spans : RequestSpans) → front ≡ take head_limit bytes
    → IsRequestOf front hs spans → IsRequestWithin front hs spans → field_limit < spans.headers → BeginsBadly bytes
many_found bytes front hs spans e =
    let P : List ℕ → Type 0 = λ f. IsRequestOf f hs spans → IsRequestWithin f hs spans → field_limit < spans.headers → BeginsBadly bytes in
    subst P (sym e) (many_of bytes hs spans)

few_of : (bytes : List ℕ) (hs : List HeaderSpan) (spans : RequestSpans)
    → IsRequestOf (take head_limit bytes) hs spans → IsRequestWithin (take head_limit bytes) hs spans → spans.headers ≤ field_limit
    → (head : RequestHead) × BeginsWithHead bytes head (drop spans.len bytes) × Covers (take head_limit bytes) hs spans head
few_of bytes hs spans x w few = (
  x.0,
  begins_with bytes x.0 spans.len x.1.reads x.1.len (omega (arith, count_fields _ hs spans.headers x.0.fields w.section.count_fits x.1.fields)),
  record { within = w; method = x.1.method; path = x.1.path; version = x.1.version; fields_are = x.1.fields },
)

pub few_found : (bytes front : List ℕ) (hs : List HeaderSpan) (spans : RequestSpans) → front ≡ take head_limit bytes
    → IsRequestOf front hs spans → IsRequestWithin front hs spans → spans.headers ≤ field_limit
    → (head : RequestHead) × BeginsWithHead bytes head (drop spans.len bytes) × Covers (take head_limit bytes) hs spans head
few_found bytes front hs spans e =
    let P : List ℕ → Type 0 = λ f. IsRequestOf f hs spans → IsRequestWithin f hs spans → spans.headers ≤ field_limit
    → (head : RequestHead) × BeginsWithHead bytes head (drop spans.len bytes) × Covers (take head_limit bytes) hs spans head in
    subst P (sym e) (few_of bytes hs spans)
