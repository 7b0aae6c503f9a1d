-- The lines of a text, and the parts between its line ends.
use Rattle.operator.proofs.Prelude.{◌≡◌, ◌∙◌, sym, ap, ◌⊎◌, inl, inr, arith, ℕ, Some, List, [], ◌∷◌, ◌++◌, append_assoc, length, line}
use Rattle.std.proofs.Common.{◌≢◌, ◌<◌, ◌==◌, Bor, Option, None, MatchOption, append-nil, flat_map, unwrap_or}
use Rattle.std.specs.List.{join_with_byte, slice_split}
use Rattle.std.proofs.lemmas.List.Splits.{join_with_byte-slice_split, length-slice_split}
use Rattle.operator.specs.Listed.{AreLinesOf}

-- parts as lines are the parts with LF between them, and one LF more
lines_of_parts : (parts : List (List ℕ)) → 0 < length parts → flat_map line parts ≡ join_with_byte 10 parts ++ 10 ∷ []
lines_of_parts [] some = absurd (omega arith)
lines_of_parts (part ∷ []) some = append-nil (line part)
lines_of_parts (part ∷ next ∷ parts) some =
    append_assoc part (10 ∷ []) (flat_map line (next ∷ parts))
    ∙ ap (λ (l : List ℕ). part ++ 10 ∷ l) (lines_of_parts (next ∷ parts) (omega arith))
    ∙ sym (append_assoc part (10 ∷ join_with_byte 10 (next ∷ parts)) (10 ∷ []))

-- the parts of a text as lines are the text and one LF more
lines_of_text : (text : List ℕ) → text ++ 10 ∷ [] ≡ flat_map line (slice_split (λ byte. byte == 10) text)
lines_of_text text =
    let some = length-slice_split (λ byte. byte == 10) text in
    sym (lines_of_parts (slice_split (λ byte. byte == 10) text) (omega (arith, some)) ∙ ap (λ (l : List ℕ). l ++ 10 ∷ []) (join_with_byte-slice_split 10 text))

-- the text is the bytes, without their last LF if they end with one
pub text_in : (bytes : List ℕ) (found : Option (Bor (List ℕ))) (all text : Bor (List ℕ)) → MatchOption found ((front : List ℕ) → bytes ≢ front ++ 10 ∷ []) (λ rest. bytes ≡ rest.now ++ 10 ∷ []) → text ≡ unwrap_or found all → all.now ≡ bytes
    → (bytes ≡ text.now ++ 10 ∷ []) ⊎ (bytes ≡ text.now)
text_in bytes (Some rest) all text cut is whole = inl (cut ∙ ap (λ (t : Bor (List ℕ)). t.now ++ 10 ∷ []) (sym is))
text_in bytes None all text cut is whole = inr (sym (ap (λ (t : Bor (List ℕ)). t.now) is ∙ whole))

-- the parts of such a text are the lines of the bytes
pub parts_are_lines : (bytes text : List ℕ) (paths : List (List ℕ)) → (bytes ≡ text ++ 10 ∷ []) ⊎ (bytes ≡ text) → paths ≡ slice_split (λ byte. byte == 10) text → AreLinesOf bytes paths
parts_are_lines bytes text paths (inl cut) parts = inl (cut ∙ lines_of_text text ∙ ap (flat_map line) (sym parts))
parts_are_lines bytes text paths (inr same) parts = inr (ap (λ (l : List ℕ). l ++ 10 ∷ []) same ∙ lines_of_text text ∙ ap (flat_map line) (sym parts))
