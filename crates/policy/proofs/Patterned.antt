-- Patterns that were read hold what the texts of the row hold.
use Rattle.policy.proofs.Prelude.{◌≡◌, ◌∙◌, ℕ, Bool, true, false, ◌||◌, ◌==◌, List, [], ◌∷◌, map, Option, Some, None, codes, bytes_eq, refl, sym, ap₂, append-nil, starts_is, bytes_eq-Decides, Decides-eqb, list_any, ends_with, begins, is_any, holds, held_if_named, pattern_of, pattern_view, pattern_holds, holds_every, hold_if_named}
use Rattle.policy.specs.declared.patterns.Pattern as code
use Rattle.policy.proofs.Lists.{list_any-map}

any_alike : {A : Type 0} (f g : A → Bool) (xs : List A) → ((x : A) → f x ≡ g x) → list_any f xs ≡ list_any g xs
any_alike f g [] same = refl
any_alike f g (x ∷ xs) same = ap₂ (λ a b. a || b) (same x) (any_alike f g xs same)

-- a text begins with itself
begins_same : (text other : List ℕ) → bytes_eq text other ≡ true → begins text other ≡ true
begins_same text other is =
    (starts_is Decides-eqb other text (begins text other) refl).1 [] (sym ((bytes_eq-Decides text other).0 is) ∙ sym (append-nil text))

-- a text that is the folder begins with it, so the two tests are one
folder_alone : (same front : Bool) → (same ≡ true → front ≡ true) → front ≡ (same || front)
folder_alone true front then = then refl
folder_alone false front then = refl

same_or_none : (same : Bool) → same ≡ (same || false)
same_or_none true = refl
same_or_none false = refl

read_holds : (p t : List ℕ) → pattern_holds (pattern_of p) t ≡ holds t p
read_holds p t = at (is_any p) (ends_with (λ a b. a == b) p (codes "/")) refl refl
  where
    at : (a e : Bool) → is_any p ≡ a → ends_with (λ x y. x == y) p (codes "/") ≡ e → pattern_holds (pattern_of p) t ≡ holds t p
    at true e any ends = rw any refl
    at false true any ends = rw (any, ends) (folder_alone (bytes_eq p t) (begins p t) (begins_same p t))
    at false false any ends = rw (any, ends) (same_or_none (bytes_eq p t))

read_holds_every : (p : List ℕ) → holds_every (pattern_of p) ≡ is_any p
read_holds_every p = at (is_any p) (ends_with (λ a b. a == b) p (codes "/")) refl refl
  where
    at : (a e : Bool) → is_any p ≡ a → ends_with (λ x y. x == y) p (codes "/") ≡ e → holds_every (pattern_of p) ≡ is_any p
    at true e any ends = rw any refl
    at false true any ends = rw (any, ends) refl
    at false false any ends = rw (any, ends) refl

pub read_hold_if_named : (patterns : List (List ℕ)) (part : Option (List ℕ)) → hold_if_named (map pattern_of patterns) part ≡ held_if_named patterns part
read_hold_if_named patterns (Some text) =
    list_any-map (λ p. pattern_holds p text) pattern_of patterns ∙ any_alike (λ p. pattern_holds (pattern_of p) text) (holds text) patterns (λ p. read_holds p text)
read_hold_if_named patterns None =
    list_any-map holds_every pattern_of patterns ∙ any_alike (λ p. holds_every (pattern_of p)) is_any patterns read_holds_every

-- the answer of the patterns is that of the texts which they were read from
pub as_spelled : (patterns : List code.Pattern) (spelled : List (List ℕ)) (given asked : Option (List ℕ)) (answer : Bool) → answer ≡ hold_if_named (map pattern_view patterns) given
    → map pattern_view patterns ≡ map pattern_of spelled → given ≡ asked → answer ≡ held_if_named spelled asked
as_spelled patterns spelled given asked answer is read same = is ∙ ap₂ hold_if_named read same ∙ read_hold_if_named spelled asked
