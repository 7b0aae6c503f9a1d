-- The text before a slash at its end.
use Rattle.policy.proofs.Prelude.{◌≡◌, ◌≢◌, ℕ, ◌-◌, List, [], ◌∷◌, ◌++◌, length, Option, Some, None, option_map, true, refl, ap, sym, arith, length-append, Bor, inl, inr, cases_Bool, Decides-eqb, ends_is, MatchOption, ends_in_slash, before_slash}
use Rattle.std.proofs.Math.Seq.{take-append_seam}

-- the text before the slash of a text that ends in a slash
before_slash-append : (front : List ℕ) → before_slash (front ++ 47 ∷ []) ≡ Some front
before_slash-append front =
    let ends : ends_in_slash (front ++ 47 ∷ []) ≡ true = (ends_is Decides-eqb (front ++ 47 ∷ []) (47 ∷ []) _ refl).1 front refl in
    let long : length (front ++ 47 ∷ []) - 1 ≡ length front = omega (arith, length-append front (47 ∷ [])) in
    rw (ends, long) (ap Some (take-append_seam front (47 ∷ [])))

before_slash-none : (text : List ℕ) → ((front : List ℕ) → text ≢ front ++ 47 ∷ []) → before_slash text ≡ None
before_slash-none text none =
    elim (cases_Bool (ends_in_slash text)) [
      | inl ends ↦ absurd (none _ ((ends_is Decides-eqb text (47 ∷ []) _ refl).0 ends))
      | inr other ↦ rw other
    ]

pub before_slash-from_strip : (text : List ℕ) (r : Option (Bor (List ℕ)))
    → MatchOption r ((front : List ℕ) → text ≢ front ++ 47 ∷ []) (λ front. text ≡ front.now ++ 47 ∷ [])
    → option_map (λ front. front.now) r ≡ before_slash text
before_slash-from_strip text None h = sym (before_slash-none text h)
before_slash-from_strip text (Some front) h = rw h (sym (before_slash-append front.now))
