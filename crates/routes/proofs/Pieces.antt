-- The parts of a text, by `split_once` at a slash.
use Rattle.routes.proofs.Prelude.{◌≡◌, ◌≢◌, ℕ, zero, suc, ◌-◌, ◌<◌, List, [], ◌∷◌, length, Some, refl, sym, ap, ◌∙◌, arith, ◌==◌, slice_get, position_or_len, before_first, after_first, parts}
use Rattle.std.proofs.lemmas.List.Splits.{slice_split_first, slice_split_none}
use Rattle.std.proofs.lemmas.List.Sums.{fails_before_first}

pub some_parts : (text owner name : List ℕ)
    → (position_or_len (λ b. b == 47) text < length text) × (owner ≡ before_first (λ b. b == 47) text) × (name ≡ after_first (λ b. b == 47) text)
    → parts text ≡ owner ∷ parts name
some_parts text owner name h =
    slice_split_first (λ b. b == 47) text 0 h.0 ∙ ap (λ o. o ∷ parts (after_first (λ b. b == 47) text)) (sym h.1) ∙ ap (λ n. owner ∷ parts n) (sym h.2)

pub one_part : (text : List ℕ) → position_or_len (λ b. b == 47) text ≡ length text → parts text ≡ text ∷ []
one_part text e = slice_split_none (λ b. b == 47) text (λ k d h. fails_before_first (λ b. b == 47) text k d (omega (arith, h, e)))

pub at_front : (text part : List ℕ) (more : List (List ℕ)) (n : ℕ) → parts text ≡ part ∷ more → n ≡ 0 → Some part ≡ slice_get (parts text) n
at_front text part more n e z = sym (ap (λ k. slice_get (parts text) k) z ∙ ap (λ p. slice_get p 0) e)

pub further : (text part : List ℕ) (more : List (List ℕ)) (n : ℕ) → parts text ≡ part ∷ more → n ≢ 0 → slice_get more (n - 1) ≡ slice_get (parts text) n
further text part more zero e z = absurd (z refl)
further text part more (suc n) e z =
    let m : suc n - 1 ≡ n = omega arith in ap (λ k. slice_get more k) m ∙ sym (ap (λ p. slice_get p (suc n)) e)
