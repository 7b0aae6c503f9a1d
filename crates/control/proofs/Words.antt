-- The words of a request, whose fields follow one another.
use Rattle.std.proofs.Common.{◌≡◌, ◌++◌, ◌∷◌, [], ◌<◌, ◌≤◌, ◌+◌, ◌∙◌, ℕ, List, String, string_bytes, length, map, take, get_or, sym, refl, ap, subst, arith, append_assoc, length-append}
use Rattle.std.specs.Str.{IsUtf8}
use Rattle.std.specs.List.{flat_map, All}
use Rattle.std.proofs.Math.Seq.{get_or-append_seam}
use Rattle.std.proofs.lemmas.Str.{IsUtf8-string_bytes}
use Rattle.std.proofs.lemmas.List.{append-nil, length-map, map-append}
use Rattle.std.proofs.lemmas.List.Elements.{All-get_or, All-map, All-same}
use Rattle.std.proofs.lemmas.List.Folds.{flat_map-map, length-flat_map-take}
use Rattle.std.proofs.lemmas.Grind.{flat_map-append}
use Rattle.control.specs.Fields.{field, BeginsWith, BeginsWithNoText}
use Rattle.control.specs.Requests.{longest_request, most_words, request_body, request_of, AreWords, IsRequest}
use Rattle.control.proofs.Fronts.{field-unique}

-- a word and those before it are no longer than all words
pub words-within : {A : Type 0} (words : List (String A)) (i : ℕ) (d : String A) → i < length words → length (flat_map field (map string_bytes (take i words))) + length (field (string_bytes (get_or words i d))) ≤ length (flat_map field (map string_bytes words))
words-within {A} words i d h =
    let f : String A → List ℕ = λ w. field (string_bytes w) in
    rw (flat_map-map field string_bytes (take i words), flat_map-map field string_bytes words) (length-flat_map-take f words i d h)

-- the bytes of strings are UTF-8
pub all-texts : {A : Type 0} (words : List (String A)) → All IsUtf8 (map string_bytes words)
all-texts {A} words =
    All-map IsUtf8 string_bytes words (λ (k : ℕ) (d : String A) (h : k < length words). IsUtf8-string_bytes (get_or words k d))

-- what the code tests is that the request is in range
pub in-range : {A : Type 0} (input : List ℕ) (words : List (String A)) → length words ≤ most_words → length (request_body (request_of input words)) ≤ longest_request → IsRequest (request_of input words)
in-range input words few short =
    record { few = omega (arith, length-map words string_bytes); texts = all-texts words; short = short }

-- one more word that was read
pub words-read : {A : Type 0} (bytes content rest after : List ℕ) (before : List (String A)) (word : String A) → bytes ≡ flat_map field (map string_bytes before) ++ rest → BeginsWith rest content after → string_bytes word ≡ content → bytes ≡ flat_map field (map string_bytes (before ++ word ∷ [])) ++ after
words-read bytes content rest after before word e front is =
    let texts : map string_bytes (before ++ word ∷ []) ≡ map string_bytes before ++ content ∷ [] = map-append string_bytes before (word ∷ []) ∙ ap (λ l. map string_bytes before ++ l ∷ []) is in
    let pushed : flat_map field (map string_bytes (before ++ word ∷ [])) ≡ flat_map field (map string_bytes before) ++ field content = ap (λ l. flat_map field l) texts ∙ flat_map-append field (map string_bytes before) (content ∷ []) ∙ ap (λ l. flat_map field (map string_bytes before) ++ l) (append-nil (field content)) in
    e ∙ ap (λ l. flat_map field (map string_bytes before) ++ l) front.is ∙ sym (append_assoc (flat_map field (map string_bytes before)) (field content) after) ∙ ap (λ l. l ++ after) (sym pushed)

-- if nothing is left, these are all words
pub words-whole : (bytes : List ℕ) (words : List (List ℕ)) (rest : List ℕ) → bytes ≡ flat_map field words ++ rest → length rest ≡ 0 → bytes ≡ flat_map field words
words-whole bytes words [] e none = e ∙ append-nil (flat_map field words)
words-whole bytes words (b ∷ rest) e none = absurd (omega (arith, none))

-- what is left after some words, of words with the same bytes
pub record Left (before words : List (List ℕ)) (rest : List ℕ) : Type 0 where
  pub after : List (List ℕ)
  pub words_are : words ≡ before ++ after
  pub bytes_are : flat_map field after ≡ rest

-- words whose fields are before the rest are the first of any words with the same bytes
pub words-front : (before words : List (List ℕ)) (rest : List ℕ) → length (flat_map field words) ≤ longest_request → flat_map field words ≡ flat_map field before ++ rest → Left before words rest
words-front [] words rest short e = record { after = words; words_are = refl; bytes_are = e }
words-front (b ∷ before) [] rest short e = cc
words-front (b ∷ before) (w ∷ words) rest short e =
    let same : field w ++ flat_map field words ≡ field b ++ (flat_map field before ++ rest) = e ∙ append_assoc (field b) (flat_map field before) rest in
    let size : length (field w ++ flat_map field words) ≡ length (field w) + length (flat_map field words) = length-append (field w) (flat_map field words) in
    let other : length (field b ++ (flat_map field before ++ rest)) ≡ length (field b) + length (flat_map field before ++ rest) = length-append (field b) (flat_map field before ++ rest) in
    let equal : length (field w ++ flat_map field words) ≡ length (field b ++ (flat_map field before ++ rest)) = ap length same in
    let both = field-unique w b (flat_map field words) (flat_map field before ++ rest) (omega arith) (omega arith) same in
    let left = words-front before words rest (omega arith) both.1 in
    record { after = left.after; words_are = cc; bytes_are = left.bytes_are }

-- no word follows most words
no-after : (before after words : List (List ℕ)) (rest : List ℕ) → most_words ≤ length before → 0 < length rest → words ≡ before ++ after → flat_map field after ≡ rest → length words ≤ most_words → ⊥
no-after before [] words rest many some e left few = omega (arith, ap length left)
no-after before (w ∷ after) words rest many some e left few =
    omega (arith, ap length e, length-append before (w ∷ after))

-- if most words are before the rest, and the rest has bytes, there are too many words
pub no-more : (bytes : List ℕ) (before words : List (List ℕ)) (rest : List ℕ) → length bytes ≤ longest_request → bytes ≡ flat_map field before ++ rest → most_words ≤ length before → 0 < length rest → AreWords bytes words → ⊥
no-more bytes before words rest short e many some are =
    let left = words-front before words rest (omega (arith, ap length are.is)) (sym are.is ∙ e) in
    no-after before left.after words rest many some left.words_are left.bytes_are are.few

-- a word that follows is one that the rest begins with
no-word : (before after words : List (List ℕ)) (rest : List ℕ) → length rest ≤ longest_request → 0 < length rest → BeginsWithNoText rest → words ≡ before ++ after → flat_map field after ≡ rest → All IsUtf8 words → ⊥
no-word before [] words rest short some none e left texts = omega (arith, ap length left)
no-word before (w ∷ after) words rest short some none e left texts =
    let size = length-append (field w) (flat_map field after) in
    let within : length before < length (before ++ w ∷ after) = omega (arith, length-append before (w ∷ after)) in
    let all = All-same IsUtf8 (before ++ w ∷ after) words (sym e) texts in
    let last : IsUtf8 w = subst IsUtf8 (get_or-append_seam before w after w) (All-get_or IsUtf8 (before ++ w ∷ after) (length before) w within all) in
    none w (flat_map field after) (omega (arith, ap length left, size)) last (sym left)

-- if words are before the rest, and the rest has bytes and begins with no word, these are not the fields of words
pub no-text : (bytes : List ℕ) (before words : List (List ℕ)) (rest : List ℕ) → length bytes ≤ longest_request → bytes ≡ flat_map field before ++ rest → 0 < length rest → BeginsWithNoText rest → AreWords bytes words → ⊥
no-text bytes before words rest short e some none are =
    let left = words-front before words rest (omega (arith, ap length are.is)) (sym are.is ∙ e) in
    let size = length-append (flat_map field before) rest in
    no-word before left.after words rest (omega (arith, ap length e, size)) some none left.words_are left.bytes_are are.texts

-- words with the same bytes are the same
pub words-unique : (one other : List (List ℕ)) → length (flat_map field one) ≤ longest_request → flat_map field one ≡ flat_map field other → one ≡ other
words-unique [] [] short e = refl
words-unique [] (w ∷ other) short e = cc
words-unique (w ∷ one) [] short e = cc
words-unique (v ∷ one) (w ∷ other) short e =
    let size = length-append (field v) (flat_map field one) in
    let also = length-append (field w) (flat_map field other) in
    let both = field-unique v w (flat_map field one) (flat_map field other) (omega (arith, size)) (omega (arith, also, size, ap length e)) e in
    let rest : one ≡ other = words-unique one other (omega (arith, size)) both.1 in
    cc
