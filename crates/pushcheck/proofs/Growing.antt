-- A list of verdicts that grows with the paths that were read.
use Rattle.std.proofs.Common.{◌≡◌, ◌∙◌, ℕ, ◌+◌, ◌<◌, List, [], ◌∷◌, ◌++◌, map, length, take, get_or, sym, ap}
use Rattle.std.proofs.lemmas.List.{map-append, take_more}

module _ {P V T M : Type 0} (text : P → T) (view : V → M) (f : T → M) where
  -- the verdict on one path more
  pub one_more : (paths : List P) (i : ℕ) (path : P) (verdict : V) (old new : List V) → i < length paths → path ≡ get_or paths i path → view verdict ≡ f (text path)
      → map view old ≡ map f (map text (take i paths)) → new ≡ old ++ verdict ∷ [] → map view new ≡ map f (map text (take (i + 1) paths))
  one_more paths i path verdict old new within at is before pushed =
      ap (map view) pushed ∙ map-append view old (verdict ∷ []) ∙ ap (λ l. l ++ view verdict ∷ []) before ∙ ap (λ m. map f (map text (take i paths)) ++ m ∷ []) is
      ∙ sym (map-append f (map text (take i paths)) (text path ∷ [])) ∙ ap (map f) (sym (map-append text (take i paths) (path ∷ [])))
      ∙ ap (λ l. map f (map text l)) (ap (λ p. take i paths ++ p ∷ []) at ∙ sym (take_more paths i path within))
