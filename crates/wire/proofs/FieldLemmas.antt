-- The fields of a head, from the slices of its bytes.
use Rattle.wire.proofs.Prelude.{◌≡◌, ℕ, ◌≤◌, Bool, true, false, ◌&&◌, ◌||◌, nat_le, ◌==◌, List, [], ◌∷◌, length, map, filter, find, count_by, cond, codes, Option, Some, option_map, refl, sym, ap, ◌∙◌, arith, AllByRecursion, list_any, slice_split, recursion_from_All, length-map, nat_tests, RequestHead, Field, field_value, trim_ows, span_bytes, header_bytes, name_and_value, IsWithin, IsHeaderWithin, HeaderSpan, first}
use Rattle.std.proofs.lemmas.List.Folds.{list_any-append}
use Rattle.httparse.specs.Ascii.{comma}
use Rattle.std.specs.Str.{str_eq_ignore_ascii_case}
use Rattle.std.proofs.lemmas.List.Sums.{length-filter}
use Rattle.httparse.specs.declared.spans.Span.{Span}
use Rattle.model.specs.Heads.{values, items, asks_close}
use Rattle.wire.specs.declared.head.Head.{Head}
use Rattle.wire.specs.Fields.{bytes_of_span, is_named, values_at, Shows, head_bytes, field_spans, values_shown, lists_close, is_closing_field}

leb_true : (a b : ℕ) → a ≤ b → nat_le a b ≡ true
leb_true a b h = grind (arith, nat_tests)

head_same : {A : Type 0} {x y : A} {xs ys : List A} → x ∷ xs ≡ y ∷ ys → x ≡ y
head_same e = cc

tail_same : {A : Type 0} {x y : A} {xs ys : List A} → x ∷ xs ≡ y ∷ ys → xs ≡ ys
tail_same e = cc

pub covered_is : (bytes : List ℕ) (s : Span) (n : ℕ) → IsWithin n s → n ≤ length bytes → bytes_of_span bytes s ≡ span_bytes bytes s
covered_is bytes s n within fits =
    let low : nat_le s.start s.end ≡ true = leb_true s.start s.end within.0 in
    let high : nat_le s.end (length bytes) ≡ true = leb_true s.end (length bytes) (omega (arith, within.1, fits)) in
    rw (low, high) refl

abbrev value_at : List ℕ → HeaderSpan → List ℕ
value_at bytes f = bytes_of_span bytes f.value

-- one more field, on both sides
one_more : (bytes : List ℕ) (v w : Bool) (f : HeaderSpan) (g : Field) (fs : List HeaderSpan) (gs : List Field) → v ≡ w → value_at bytes f ≡ field_value g
    → map (value_at bytes) fs ≡ map field_value gs → map (value_at bytes) (cond v (f ∷ fs) fs) ≡ map field_value (cond w (g ∷ gs) gs)
one_more bytes true true f g fs gs e value rest = ap (λ x. x ∷ map (value_at bytes) fs) value ∙ ap (λ l. field_value g ∷ l) rest
one_more bytes false false f g fs gs e value rest = rest
one_more bytes true false f g fs gs e value rest = absurd (cc)
one_more bytes false true f g fs gs e value rest = absurd (cc)

-- the values of the fields that the spans cover
values_same : (bytes : List ℕ) (name : List ℕ) (spans : List HeaderSpan) (fields : List Field) (n : ℕ) → n ≤ length bytes
    → AllByRecursion (IsHeaderWithin n) spans → map (header_bytes bytes) spans ≡ map name_and_value fields
    → values_at bytes spans name ≡ map field_value (filter (λ f. str_eq_ignore_ascii_case f.name name) fields)
values_same bytes name [] [] n fits within e = refl
values_same bytes name [] (g ∷ gs) n fits within e = absurd (cc)
values_same bytes name (f ∷ fs) [] n fits within e = absurd (cc)
values_same bytes name (f ∷ fs) (g ∷ gs) n fits within e =
    let named : bytes_of_span bytes f.name ≡ g.name = covered_is bytes f.name n within.0.0 fits ∙ ap (λ (p : List ℕ × List ℕ). p.0) (head_same e) in
    let value : bytes_of_span bytes f.value ≡ field_value g = covered_is bytes f.value n within.0.1 fits ∙ ap (λ (p : List ℕ × List ℕ). p.1) (head_same e) in
    one_more bytes (is_named bytes name f) (str_eq_ignore_ascii_case g.name name) f g (filter (is_named bytes name) fs) (filter (λ h. str_eq_ignore_ascii_case h.name name) gs)
    (ap (λ k. str_eq_ignore_ascii_case k name) named) value (values_same bytes name fs gs n fits within.1 (tail_same e))

pub shown_are : (h : Head) (head : RequestHead) (name : List ℕ) → Shows h head → values_shown h name ≡ values name head
shown_are h head name s =
    let section = s.within.section in
    values_same (head_bytes h) name (field_spans h) head.fields h.spans.len section.len_fits
    (recursion_from_All (IsHeaderWithin h.spans.len) (field_spans h) section.headers_fit) s.fields_are

pub first_value : (bytes name : List ℕ) (fields : List HeaderSpan) → first (values_at bytes fields name) ≡ option_map (λ (f : HeaderSpan). bytes_of_span bytes f.value) (find (is_named bytes name) fields)
first_value bytes name [] = refl
first_value bytes name (f ∷ fs) =
    elim (is_named bytes name f) as (λ v. first (map (value_at bytes) (cond v (f ∷ filter (is_named bytes name) fs) (filter (is_named bytes name) fs))) ≡ option_map (value_at bytes) (cond v (Some f) (find (is_named bytes name) fs))) [
      | true ↦ refl
      | false ↦ first_value bytes name fs
    ]

pub count_values : (bytes name : List ℕ) (fields : List HeaderSpan) → length (values_at bytes fields name) ≡ count_by (is_named bytes name) fields
count_values bytes name fields = length-map (filter (is_named bytes name) fields) (value_at bytes) ∙ length-filter (is_named bytes name) fields

pub count_shown : (h : Head) (head : RequestHead) (name : List ℕ) (fields : List HeaderSpan) (n : ℕ) → fields ≡ field_spans h
    → n ≡ count_by (is_named (head_bytes h) name) fields → Shows h head → n ≡ length (values name head)
count_shown h head name fields n e count s =
    count ∙ sym (count_values (head_bytes h) name fields) ∙ ap (λ fs. length (values_at (head_bytes h) fs name)) e ∙ ap length (shown_are h head name s)

pub first_shown : (h : Head) (head : RequestHead) (name : List ℕ) (fields : List HeaderSpan) (o : Option HeaderSpan) → fields ≡ field_spans h
    → o ≡ find (is_named (head_bytes h) name) fields → Shows h head → option_map (value_at (head_bytes h)) o ≡ first (values name head)
first_shown h head name fields o e found s =
    ap (option_map (value_at (head_bytes h))) found ∙ sym (first_value (head_bytes h) name fields)
    ∙ ap (λ fs. first (values_at (head_bytes h) fs name)) e ∙ ap first (shown_are h head name s)

any_map : {X Y : Type 0} (p : Y → Bool) (h : X → Y) (xs : List X) → list_any p (map h xs) ≡ list_any (λ x. p (h x)) xs
any_map p h [] = refl
any_map p h (x ∷ xs) = ap (λ b. p (h x) || b) (any_map p h xs)

abbrev close : List ℕ → Bool
close = str_eq_ignore_ascii_case (codes "close")

-- a value lists `close` if one of its items is `close`
close_in : (value : List ℕ) (more : List (List ℕ)) → list_any close (items (value ∷ more)) ≡ (lists_close value || list_any close (items more))
close_in value more =
    list_any-append close (map trim_ows (slice_split (λ b. b == comma) value)) (items more)
    ∙ ap (λ b. b || list_any close (items more)) (any_map close trim_ows (slice_split (λ b. b == comma) value))

one_more_closing : (bytes : List ℕ) (v : Bool) (f : HeaderSpan) (fs rest : List HeaderSpan)
    → list_any (is_closing_field bytes) fs ≡ list_any close (items (map (value_at bytes) rest))
    → ((v && lists_close (bytes_of_span bytes f.value)) || list_any (is_closing_field bytes) fs) ≡ list_any close (items (map (value_at bytes) (cond v (f ∷ rest) rest)))
one_more_closing bytes true f fs rest e =
    ap (λ b. lists_close (bytes_of_span bytes f.value) || b) e ∙ sym (close_in (bytes_of_span bytes f.value) (map (value_at bytes) rest))
one_more_closing bytes false f fs rest e = e

closing : (bytes : List ℕ) (fields : List HeaderSpan)
    → list_any (is_closing_field bytes) fields ≡ list_any close (items (values_at bytes fields (codes "connection")))
closing bytes [] = refl
closing bytes (f ∷ fs) =
    one_more_closing bytes (is_named bytes (codes "connection") f) f fs (filter (is_named bytes (codes "connection")) fs) (closing bytes fs)

pub closes_shown : (h : Head) (head : RequestHead) (lists : Bool)
    → lists ≡ list_any (is_closing_field (head_bytes h)) (field_spans h) → Shows h head → (head.minor == 0) ≡ false
    → lists ≡ asks_close head
closes_shown h head lists is s new =
    is ∙ closing (head_bytes h) (field_spans h)
    ∙ ap (λ vs. list_any close (items vs)) (shown_are h head (codes "connection") s)
    ∙ ap (λ b. b || list_any close (items (values (codes "connection") head))) (sym new)
