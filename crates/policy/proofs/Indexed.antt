-- An index of rows finds the first row that holds a path.
use Rattle.policy.proofs.Prelude.{◌≡◌, ◌∙◌, ◌<◌, ◌≤◌, ◌+◌, ◌-◌, ◌||◌, ◌==◌, ◌++◌, ℕ, suc, Bool, true, false, List, [], ◌∷◌, length, map, take, drop, get_or, Option, Some, None, option_map, Global, codes, bytes_eq, refl, sym, ap, subst, arith, append_assoc, length-map, String, string_bytes, and_parts, inl, inr, false_from_ne_true, Decides-eqb, ends_is, list_any, ends_with, begins, is_any, holds, held_if_named, Question, decide_among, covers_place, numbered_view, texts}
use Rattle.std.specs.Prelude.{zero, ◌%◌, All, Vec, set, vec_len, slice_get}
use Rattle.std.proofs.lemmas.List.{take_more, take_all, map_more, get_or-map, get_or-set_same}
use Rattle.std.proofs.lemmas.List.Elements.{All-head, All-tail, All-weaker, All-same, All-push}
use Rattle.std.proofs.lemmas.Option.{slice_get-map, slice_get-get_or, slice_get_past, slice_get_cases}
use Rattle.std.proofs.Math.Seq.{get_or-append_seam, take-append-add}
use Rattle.std.proofs.Common.{length-set}
use Rattle.std.proofs.lemmas.Bool.{eqb-true, eq-eqb}
use Rattle.policy.specs.Applicable.{NumberedRow}
use Rattle.policy.specs.Index.{mixed, hashed, buckets_view, bucket_of, has, paths_of, row_covers, covers_at, decision_of, AreIndexed, IsIndex, HaveGrown, IsFound, NoneBefore, AreSearched, IsFirst}
use Rattle.policy.specs.declared.numbered.NumberedRow as code
use Rattle.policy.proofs.Covered.{either, or_left, or_right, same_text, rest_of, is_folder_of}

-- ---- hashes

hashed-append : (hash : ℕ) (front : List ℕ) (byte : ℕ)
    → hashed hash (front ++ byte ∷ []) ≡ mixed (hashed hash front) byte
hashed-append hash [] byte = refl
hashed-append hash (x ∷ xs) byte = hashed-append (mixed hash x) xs byte

-- one byte more of the text
pub hashed_more : (text : List ℕ) (i d : ℕ) → i < length text
    → hashed 0 (take (i + 1) text) ≡ mixed (hashed 0 (take i text)) (get_or text i d)
hashed_more text i d inside =
    ap (hashed 0) (take_more text i d inside) ∙ hashed-append 0 (take i text) (get_or text i d)

-- ---- rows at positions

pub row_here : (items : List code.NumberedRow) (i : ℕ) (x : code.NumberedRow) → i < length items → x ≡ get_or items i x
    → slice_get (map numbered_view items) i ≡ Some (numbered_view x)
row_here items i x inside same =
    slice_get-map numbered_view items i
    ∙ ap (option_map numbered_view) (slice_get-get_or items i x inside ∙ ap Some (sym same))

pub row_past : (items : List code.NumberedRow) (i : ℕ) → length items ≤ i
    → slice_get (map numbered_view items) i ≡ None
row_past items i past = slice_get-map numbered_view items i ∙ ap (option_map numbered_view) (slice_get_past items i past)

-- the first row that holds the ref and the path decides
pub first_decides : (q : Question) (rows : List NumberedRow) (n : ℕ) → IsFirst q rows n
    → decision_of (slice_get rows n) ≡ decide_among rows q
first_decides q [] n is = refl
first_decides q (row ∷ rows) zero is = rw (is.found (omega arith)) refl
first_decides q (row ∷ rows) (suc n) is =
    let before : covers_place q row.row ≡ true → ⊥ = λ here. let bad = is.first 0 here in absurd (omega (arith, bad)) in
    rw (false_from_ne_true (covers_place q row.row) before)
    (first_decides q rows n
    (record {
      found = λ inside. is.found (omega (arith, inside));
      first = λ other here. let later = is.first (suc other) here in omega (arith, later);
    }))

-- ---- elements

-- an element that passes the test has what each element has
from_any : {A : Type 0} (R : Type 0) (Q : A → Type 0) (test : A → Bool) (xs : List A) → All Q xs
    → ((x : A) → Q x → test x ≡ true → R) → list_any test xs ≡ true → R
from_any R Q test [] all from is = absurd (cc)
from_any R Q test (x ∷ xs) all from is =
    either R (test x) (list_any test xs) (λ here. from x (All-head Q x xs all) here)
    (λ more. from_any R Q test xs (All-tail Q x xs all) from more) is

-- a folder of the path ends at a slash of it
folder_ends : (front rest path : List ℕ) → path ≡ front ++ 47 ∷ rest
    → (length front < length path) × (get_or path (length front) 0 ≡ 47)
    × (take (length front + 1) path ≡ front ++ 47 ∷ [])
folder_ends front rest path is =
    rw is (inside front, get_or-append_seam front 47 rest 0, take-append-add front (47 ∷ rest) 1)
  where
    inside : (front : List ℕ) → length front < length (front ++ 47 ∷ rest)
    inside [] = omega arith
    inside (x ∷ xs) = let more = inside xs in omega (arith, more)

-- a row that holds the path has a pattern that holds it
path_held : (q : Question) (row : Option NumberedRow) → row_covers q row ≡ true → held_if_named (paths_of row) q.path ≡ true
path_held q None here = absurd (cc)
path_held q (Some row) here = (and_parts (held_if_named row.row.refs q.ref) (held_if_named row.row.paths q.path) here).1

-- ---- the search

module _ (q : Question) (rows : List NumberedRow) where
  -- a smaller position has no more rows before it
  pub none_before_less : (n less : ℕ) (bucket : List ℕ) → less ≤ n → NoneBefore q rows n bucket → NoneBefore q rows less bucket
  none_before_less n less bucket le =
      All-weaker (λ k. covers_at q rows k ≡ true → n ≤ k) (λ k. covers_at q rows k ≡ true → less ≤ k)
      (λ k none here. let at = none here in omega (arith, le, at)) bucket

  module _ (buckets : List (List ℕ)) (n : ℕ) where
    -- no row of this text's bucket that holds the ref and the path is before the position
    abbrev Passed : List ℕ → Type 0
    Passed text = NoneBefore q rows n (bucket_of buckets (hashed 0 text))

    module _ (other : ℕ) (here : covers_at q rows other ≡ true) where
      not_before : (pattern text : List ℕ) → has (bucket_of buckets (hashed 0 pattern)) other ≡ true → pattern ≡ text
          → Passed text → n ≤ other
      not_before pattern text is_in same passed =
          from_any (n ≤ other) (λ k. covers_at q rows k ≡ true → n ≤ k) (λ k. k == other) (bucket_of buckets (hashed 0 text)) passed
          (λ k at one. let is = eqb-true k other one in subst (λ p. n ≤ p) is (at (subst (λ p. covers_at q rows p ≡ true) (sym is) here)))
          (subst (λ t. has (bucket_of buckets (hashed 0 t)) other ≡ true) same is_in)

      -- a pattern that holds the path is the one for every text, the path, or one of its folders
      searched : (path : List ℕ) → Passed (codes "*") → AreSearched q rows buckets path n → (pattern : List ℕ)
          → has (bucket_of buckets (hashed 0 pattern)) other ≡ true → holds path pattern ≡ true → n ≤ other
      searched path star on pattern is_in held =
          either (n ≤ other) (is_any pattern || bytes_eq pattern path) (is_folder_of pattern path)
          (either (n ≤ other) (is_any pattern) (bytes_eq pattern path)
          (λ any. not_before pattern (codes "*") is_in (same_text pattern (codes "*") any) star)
          (λ same. not_before pattern path is_in (same_text pattern path same) on.whole))
          (λ folder.
          let is_end = ends_with (λ a b. a == b) pattern (codes "/") in
          let (ends, front) = and_parts is_end (begins pattern path) folder in
          let short = take (length pattern - 1) pattern in
          let rest = drop (length pattern) path in
          let slash : pattern ≡ short ++ 47 ∷ [] = (ends_is Decides-eqb pattern (codes "/") is_end refl).0 ends in
          let split = rest_of pattern path front ∙ ap (λ p. p ++ rest) slash ∙ append_assoc short (47 ∷ []) rest in
          let at = folder_ends short rest path split in
          not_before pattern (take (length short + 1) path) is_in (slash ∙ sym at.2) (on.folders (length short) at.0 at.1))
          held

    pub first_on_path : (path : List ℕ) → q.path ≡ Some path → IsIndex rows buckets → IsFound q rows n → Passed (codes "*")
        → AreSearched q rows buckets path n → IsFirst q rows n
    first_on_path path on index found star searches = record {
      found = found;
      first = λ other here.
          from_any (n ≤ other) (λ pattern. has (bucket_of buckets (hashed 0 pattern)) other ≡ true) (holds path) (paths_of (slice_get rows other))
          (index other) (searched other here path star searches)
          (subst (λ p. held_if_named (paths_of (slice_get rows other)) p ≡ true) on (path_held q (slice_get rows other) here));
    }

    pub first_without_path : q.path ≡ None → IsIndex rows buckets → IsFound q rows n → Passed (codes "*") → IsFirst q rows n
    first_without_path on index found star = record {
      found = found;
      first = λ other here.
          from_any (n ≤ other) (λ pattern. has (bucket_of buckets (hashed 0 pattern)) other ≡ true) is_any (paths_of (slice_get rows other))
          (index other) (λ pattern is_in any. not_before other here pattern (codes "*") is_in (same_text pattern (codes "*") any) star)
          (subst (λ p. held_if_named (paths_of (slice_get rows other)) p ≡ true) on (path_held q (slice_get rows other) here));
    }

-- ---- a position is added

has-push : (bucket : List ℕ) (n : ℕ) → has (bucket ++ n ∷ []) n ≡ true
has-push [] n = or_left (n == n) false (eq-eqb n n refl)
has-push (x ∷ xs) n = or_right (x == n) (has (xs ++ n ∷ []) n) (has-push xs n)

has-kept : (bucket : List ℕ) (m n : ℕ) → has bucket n ≡ true → has (bucket ++ m ∷ []) n ≡ true
has-kept [] m n is_in = absurd (cc)
has-kept (x ∷ xs) m n is_in =
    let rest = has (xs ++ m ∷ []) n in
    either (has (x ∷ xs ++ m ∷ []) n ≡ true) (x == n) (has xs n) (λ here. or_left (x == n) rest here)
    (λ more. or_right (x == n) rest (has-kept xs m n more)) is_in

-- the lists after the element is added to the one at an index
abbrev added : List (List ℕ) → ℕ → ℕ → List (List ℕ)
added old at m = set old at (get_or old at [] ++ m ∷ [])

added-kept : (old : List (List ℕ)) (at m number n : ℕ) → at < length old → has (get_or old number []) n ≡ true
    → has (get_or (added old at m) number []) n ≡ true
added-kept [] at m number n inside is_in = absurd (omega (arith, inside))
added-kept (x ∷ xs) zero m zero n inside is_in = has-kept x m n is_in
added-kept (x ∷ xs) zero m (suc number) n inside is_in = is_in
added-kept (x ∷ xs) (suc at) m zero n inside is_in = is_in
added-kept (x ∷ xs) (suc at) m (suc number) n inside is_in = added-kept xs at m number n (omega (arith, inside)) is_in

added-view : (old : List (Vec ℕ Global)) (at m : ℕ) (was now : Vec ℕ Global) → at < length old → was ≡ get_or old at was
    → now.items ≡ was.items ++ m ∷ [] → buckets_view (set old at now) ≡ added (buckets_view old) at m
added-view [] at m was now inside here items = absurd (omega (arith, inside))
added-view (x ∷ xs) zero m was now inside here items =
    ap (λ b. b ∷ buckets_view xs) (items ∙ ap (λ (v : Vec ℕ Global). v.items ++ m ∷ []) here)
added-view (x ∷ xs) (suc at) m was now inside here items =
    ap (λ bs. x.items ∷ bs) (added-view xs at m was now (omega (arith, inside)) here items)

length-view : (buckets : List (Vec ℕ Global)) → length (buckets_view buckets) ≡ length buckets
length-view buckets = length-map buckets (λ (b : Vec ℕ Global). b.items)

-- a position is added to the bucket of a hash
pub pushed : (old : List (Vec ℕ Global)) (hash at m : ℕ) (was now : Vec ℕ Global) → at ≡ hash % length old
    → at < length old → was ≡ get_or old at was → now.items ≡ was.items ++ m ∷ []
    → HaveGrown (buckets_view old) (buckets_view (set old at now))
    × (has (bucket_of (buckets_view (set old at now)) hash) m ≡ true)
pushed old hash at m was now is inside here items =
    let seen = buckets_view old in
    let within : at < length seen = subst (λ n. at < n) (sym (length-view old)) inside in
    let long = length-set seen at (get_or seen at [] ++ m ∷ []) in
    let number = is ∙ ap (λ n. hash % n) (sym (long ∙ length-view old)) in
    let last : has (get_or (added seen at m) at []) m ≡ true =
    rw (get_or-set_same seen at (get_or seen at [] ++ m ∷ []) [] within) (has-push (get_or seen at []) m) in
    subst (λ bs. HaveGrown seen bs × (has (bucket_of bs hash) m ≡ true)) (sym (added-view old at m was now inside here items)) (
      record { same = long; kept = λ k n is_in. added-kept seen at m k n within is_in },
      subst (λ n. has (get_or (added seen at m) n []) m ≡ true) number last,
    )

-- the bucket at the number of a hash is that of the hash
pub bucket_here : (buckets : List (Vec ℕ Global)) (hash number : ℕ) (v : Vec ℕ Global) → number ≡ hash % length buckets
    → number < length buckets → v ≡ get_or buckets number v → bucket_of (buckets_view buckets) hash ≡ v.items
bucket_here buckets hash number v is inside same =
    let items = λ (b : Vec ℕ Global). b.items in
    ap (λ n. get_or (buckets_view buckets) n []) (ap (λ n. hash % n) (length-view buckets) ∙ sym is)
    ∙ get_or-map items buckets number v [] inside ∙ ap items (sym same)

-- ---- the making of an index

pub indexed_still : (old new : List (List ℕ)) (n : ℕ) (patterns : List (List ℕ)) → HaveGrown old new
    → AreIndexed old n patterns → AreIndexed new n patterns
indexed_still old new n patterns grown =
    All-weaker (λ pattern. has (bucket_of old (hashed 0 pattern)) n ≡ true)
    (λ pattern. has (bucket_of new (hashed 0 pattern)) n ≡ true)
    (λ pattern is_in. rw grown.same (grown.kept (hashed 0 pattern % length old) n is_in)) patterns

pub grown_twice : (one two three : List (List ℕ)) → HaveGrown one two → HaveGrown two three → HaveGrown one three
grown_twice one two three first second = record {
  same = second.same ∙ first.same;
  kept = λ number n is_in. second.kept number n (first.kept number n is_in);
}

pub still_some : (old new : Vec (Vec ℕ Global) Global) → HaveGrown (buckets_view old.items) (buckets_view new.items)
    → 0 < vec_len old → 0 < vec_len new
still_some old new grown some =
    let same = grown.same in
    let before = length-view old.items in
    let after = length-view new.items in
    omega (arith, some, same, before, after, old.ok.0, new.ok.0)

-- one text more
pub indexed_more : (buckets : List (List ℕ)) (n : ℕ) (spelled : List (String Global)) (i : ℕ) (x : String Global)
    → i < length spelled → x ≡ get_or spelled i x → AreIndexed buckets n (texts (take i spelled))
    → has (bucket_of buckets (hashed 0 (string_bytes x))) n ≡ true → AreIndexed buckets n (texts (take (i + 1) spelled))
indexed_more buckets n spelled i x inside same all is_in =
    let P = λ (text : List ℕ). has (bucket_of buckets (hashed 0 text)) n ≡ true in
    let last = string_bytes (get_or spelled i x) in
    All-same P (texts (take (i + 1) spelled)) (texts (take i spelled) ++ last ∷ []) (map_more string_bytes spelled i x inside)
    (All-push P (texts (take i spelled)) last all (subst (λ y. P (string_bytes y)) same is_in))

pub indexed_all : (buckets : List (List ℕ)) (n : ℕ) (spelled : List (String Global)) (i : ℕ) → length spelled ≤ i
    → AreIndexed buckets n (texts (take i spelled)) → AreIndexed buckets n (texts spelled)
indexed_all buckets n spelled i past = subst (λ s. AreIndexed buckets n (texts s)) (take_all i spelled past)

pub index_whole : (items : List code.NumberedRow) (buckets : List (List ℕ)) (i : ℕ) → length items ≤ i
    → ((n : ℕ) → n < i → AreIndexed buckets n (paths_of (slice_get (map numbered_view items) n)))
    → IsIndex (map numbered_view items) buckets
index_whole items buckets i past all n =
    elim (slice_get_cases items n).1 [
      | inl (x, inside, is, at) ↦ all n (omega (arith, inside, past))
      | inr (beyond, none) ↦ rw (row_past items n beyond) (λ k d inside. absurd (omega (arith, inside)))
    ]
