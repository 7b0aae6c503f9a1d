-- The widths of columns.
use Rattle.std.proofs.Common.{◌≡◌, ◌∙◌, ℕ, zero, suc, ◌<◌, max, List, [], ◌∷◌, length, get_or, arith, refl, sym, ap}
use Rattle.std.proofs.lemmas.Grind.{same_number_lists}
use Rattle.operator.specs.Columns.{widened}

pub widened_length : (widths : List ℕ) (texts : List (List ℕ)) → length (widened widths texts) ≡ length widths
widened_length [] texts = refl
widened_length (width ∷ widths) [] = refl
widened_length (width ∷ widths) (text ∷ texts) = ap suc (widened_length widths texts)

pub widened_at : (widths : List ℕ) (texts : List (List ℕ)) (k : ℕ) → k < length widths → k < length texts → get_or (widened widths texts) k 0 ≡ max (get_or widths k 0) (length (get_or texts k []))
widened_at [] texts k w t = absurd (omega (arith, w))
widened_at (width ∷ widths) [] k w t = absurd (omega (arith, t))
widened_at (width ∷ widths) (text ∷ texts) zero w t = refl
widened_at (width ∷ widths) (text ∷ texts) (suc k) w t = widened_at widths texts k (omega (arith, w)) (omega (arith, t))

-- each column was widened
pub all_widened : (old new : List ℕ) (texts : List (List ℕ)) (n : ℕ) → length old ≡ n → length new ≡ n → length texts ≡ n
    → ((k : ℕ) → k < n → get_or new k 0 ≡ max (get_or old k 0) (length (get_or texts k []))) → new ≡ widened old texts
all_widened old new texts n o m t each =
    same_number_lists new (widened old texts) (m ∙ sym (widened_length old texts ∙ o))
    (λ k within. let here : k < n = omega (arith, within, m) in each k here ∙ sym (widened_at old texts k (omega (arith, here, o)) (omega (arith, here, t))))
