-- The line of a row, column by column.
use Rattle.std.proofs.Common.{◌≡◌, ◌∙◌, ℕ, ◌+◌, ◌<◌, ◌≤◌, List, [], ◌∷◌, ◌++◌, drop, get_or, length, arith, sym, ap, subst, append_assoc}
use Rattle.std.proofs.lemmas.List.{append-nil, drop_more}
use Rattle.std.proofs.Math.ListN.{drop_of_length-le}
use Rattle.operator.specs.Columns.{aligned, at_right, gap, to_right}

-- the first column
pub column_first : (widths : List ℕ) (texts : List (List ℕ)) (width : ℕ) (text : List ℕ) (d : ℕ) (e : List ℕ) → 0 < length widths → 0 < length texts → width ≡ get_or widths 0 d → text ≡ get_or texts 0 e
    → (line : List ℕ) → line ≡ text ++ gap width text → line ++ to_right (drop 1 widths) (drop 1 texts) ≡ aligned widths texts
column_first [] texts width text d e w t width_is text_is line is = absurd (omega (arith, w))
column_first (x ∷ xs) [] width text d e w t width_is text_is line is = absurd (omega (arith, t))
column_first (x ∷ xs) (y ∷ ys) width text d e w t width_is text_is line is = rw (sym width_is, sym text_is) (ap (λ l. l ++ to_right xs ys) is)

-- one more column
pub column_more : (widths : List ℕ) (texts : List (List ℕ)) (at : ℕ) (width : ℕ) (text : List ℕ) (d : ℕ) (e : List ℕ) → at < length widths → at < length texts → width ≡ get_or widths at d → text ≡ get_or texts at e
    → (line more whole : List ℕ) → line ++ to_right (drop at widths) (drop at texts) ≡ whole → more ≡ line ++ at_right width text
    → more ++ to_right (drop (at + 1) widths) (drop (at + 1) texts) ≡ whole
column_more widths texts at width text d e w t width_is text_is line more whole before is =
    let rest = to_right (drop (at + 1) widths) (drop (at + 1) texts) in
    let ws : drop at widths ≡ width ∷ drop (at + 1) widths = drop_more widths at d w ∙ ap (λ n. n ∷ drop (at + 1) widths) (sym width_is) in
    let ts : drop at texts ≡ text ∷ drop (at + 1) texts = drop_more texts at e t ∙ ap (λ l. l ∷ drop (at + 1) texts) (sym text_is) in
    let here : line ++ (at_right width text ++ rest) ≡ whole = subst (λ l. line ++ to_right l (text ∷ drop (at + 1) texts) ≡ whole) ws (subst (λ l. line ++ to_right (drop at widths) l ≡ whole) ts before) in
    ap (λ l. l ++ rest) is ∙ append_assoc line (at_right width text) rest ∙ here

-- no column is left
pub columns_end : (widths : List ℕ) (texts : List (List ℕ)) (at : ℕ) → length widths ≤ at → (line whole : List ℕ) → line ++ to_right (drop at widths) (drop at texts) ≡ whole → line ≡ whole
columns_end widths texts at past line whole is =
    sym (append-nil line) ∙ subst (λ l. line ++ to_right l (drop at texts) ≡ whole) (drop_of_length-le widths past) is
