-- A head, line by line.
use Rattle.wire.proofs.Prelude.{◌≡◌, ℕ, List, [], ◌∷◌, ◌++◌, length, ap, refl, ◌∙◌, ◌==◌, arith, nat_tests, is_empty}

pub joined : (t1 t2 t3 t4 t5 t6 t7 a b c d e f g : List ℕ) → t1 ≡ a → t2 ≡ t1 ++ b → t3 ≡ t2 ++ c → t4 ≡ t3 ++ d → t5 ≡ t4 ++ e → t6 ≡ t5 ++ f → t7 ≡ t6 ++ g
    → t7 ≡ a ++ b ++ c ++ d ++ e ++ f ++ g
joined t1 t2 t3 t4 t5 t6 t7 a b c d e f g e1 e2 e3 e4 e5 e6 e7 =
    e7 ∙ ap (λ t. t ++ g) (e6 ∙ ap (λ t. t ++ f) (e5 ∙ ap (λ t. t ++ e) (e4 ∙ ap (λ t. t ++ d) (e3 ∙ ap (λ t. t ++ c) (e2 ∙ ap (λ t. t ++ b) e1)))))

pub empty_is : (text : List ℕ) → (length text == 0) ≡ is_empty text
empty_is [] = refl
empty_is (b ∷ text) = grind (arith, nat_tests)
