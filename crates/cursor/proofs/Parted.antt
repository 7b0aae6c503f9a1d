-- One more lock of the user goes to the front of the others.
use Rattle.cursor.proofs.Prelude.{◌≡◌, ◌∙◌, ◌<◌, ◌≤◌, ◌+◌, ◌-◌, ℕ, zero, suc, Bool, true, false, not, cond, List, [], ◌∷◌, ◌++◌, take, drop, filter, length, get_or, refl, sym, ap, ap₂, subst, arith, append_assoc, append-nil, length-append, add-one, filter-append}
use Rattle.std.proofs.Math.Seq.{take-append_seam, drop-append_seam, drop-cons, take-suc}
use borrow.Rule.Slice.PartMut.{put_mid, mid_of, post_of}

module _ {X : Type 0} where
  front_length : (n : ℕ) (xs : List X) → n ≤ length xs → length (take n xs) ≡ n
  front_length zero xs h = refl
  front_length (suc n) [] h = absurd (omega arith)
  front_length (suc n) (x ∷ xs) h = ap suc (front_length n xs (omega arith))

  get_front : (B D : List X) (x d : X) → get_or (B ++ x ∷ D) (length B) d ≡ x
  get_front [] D x d = refl
  get_front (b ∷ B) D x d = get_front B D x d

  get_past : (A B D : List X) (x d : X) (n : ℕ) → length A + length B ≡ n → get_or (A ++ (B ++ x ∷ D)) n d ≡ x
  get_past [] B D x d n e = let k : n ≡ length B = omega (arith, e) in ap (λ j. get_or (B ++ x ∷ D) j d) k ∙ get_front B D x d
  get_past (a ∷ A) B D x d zero e = absurd (omega (arith, e))
  get_past (a ∷ A) B D x d (suc n) e = get_past A B D x d n (omega (arith, e))

  mid_front : (B D : List X) (x : X) → take (suc (length B)) (B ++ x ∷ D) ≡ B ++ x ∷ []
  mid_front [] D x = refl
  mid_front (b ∷ B) D x = ap (λ l. b ∷ l) (mid_front B D x)

  mid_here : (A B D : List X) (x : X) → mid_of (length A) (suc (length B)) (A ++ (B ++ x ∷ D)) ≡ B ++ x ∷ []
  mid_here [] B D x = mid_front B D x
  mid_here (a ∷ A) B D x = mid_here A B D x

  post_front : (B D : List X) (x : X) → drop (suc (length B)) (B ++ x ∷ D) ≡ D
  post_front [] D x = refl
  post_front (b ∷ B) D x = post_front B D x

  post_here : (A B D : List X) (x : X) → post_of (length A) (suc (length B)) (A ++ (B ++ x ∷ D)) ≡ D
  post_here [] B D x = post_front B D x
  post_here (a ∷ A) B D x = post_here A B D x

  -- a part with its last element moved to the front
  rotated : (B : List X) (x : X) → drop (length (B ++ x ∷ []) - 1) (B ++ x ∷ []) ++ take (length (B ++ x ∷ []) - 1) (B ++ x ∷ []) ≡ x ∷ B
  rotated B x =
      let n : length (B ++ x ∷ []) - 1 ≡ length B = omega (arith, length-append B (x ∷ [])) in
      rw (n, drop-append_seam B (x ∷ []), take-append_seam B (x ∷ [])) refl

  forward : (A B D ys : List X) (x : X) (mine k : ℕ) → mine ≡ length A → k ≡ suc (length B)
      → ys ≡ drop (length (mid_of mine k (A ++ (B ++ x ∷ D))) - 1) (mid_of mine k (A ++ (B ++ x ∷ D))) ++ take (length (mid_of mine k (A ++ (B ++ x ∷ D))) - 1) (mid_of mine k (A ++ (B ++ x ∷ D)))
      → put_mid mine k (A ++ (B ++ x ∷ D)) ys ≡ A ++ ((x ∷ B) ++ D)
  forward A B D ys x mine k a b is =
      let L : List X = A ++ (B ++ x ∷ D) in
      let mid : mid_of mine k L ≡ B ++ x ∷ [] = ap₂ (λ m n. mid_of m n L) a b ∙ mid_here A B D x in
      let turned : ys ≡ x ∷ B = is ∙ ap (λ m. drop (length m - 1) m ++ take (length m - 1) m) mid ∙ rotated B x in
      ap₂ (λ m n. take m L ++ (ys ++ post_of m n L)) a b
      ∙ ap₂ (λ f p. f ++ (ys ++ p)) (take-append_seam A (B ++ x ∷ D)) (post_here A B D x)
      ∙ ap (λ m. A ++ (m ++ D)) turned

  module _ (P : X → Bool) where
    both_counted : (F : List X) → length (filter P F) + length (filter (λ x. not (P x)) F) ≡ length F
    both_counted [] = refl
    both_counted (x ∷ F) = at (P x) (both_counted F)
      where
        at : (v : Bool) → length (filter P F) + length (filter (λ y. not (P y)) F) ≡ length F
            → length (cond v (x ∷ filter P F) (filter P F)) + length (cond (not v) (x ∷ filter (λ y. not (P y)) F) (filter (λ y. not (P y)) F)) ≡ suc (length F)
        at true e = omega (arith, e)
        at false e = omega (arith, e)

    -- the list after i elements: those that pass, those that do not, and the elements after them
    abbrev pub so_far : List X → ℕ → List X
    so_far old i = filter P (take i old) ++ (filter (λ x. not (P x)) (take i old) ++ drop i old)

    one_more : (v : Bool) (F : List X) (x : X) → P x ≡ v → filter P (F ++ x ∷ []) ≡ filter P F ++ cond v (x ∷ []) []
    one_more v F x e = filter-append P F (x ∷ []) ∙ ap (λ t. filter P F ++ cond t (x ∷ []) []) e

    one_other : (v : Bool) (F : List X) (x : X) → P x ≡ v → filter (λ y. not (P y)) (F ++ x ∷ []) ≡ filter (λ y. not (P y)) F ++ cond (not v) (x ∷ []) []
    one_other v F x e = filter-append (λ y. not (P y)) F (x ∷ []) ∙ ap (λ t. filter (λ y. not (P y)) F ++ cond (not t) (x ∷ []) []) e

    -- the element at the place, seen in the list so far
    seen : (old : List X) (i : ℕ) (x : X) → i < length old → x ≡ get_or (so_far old i) i x → x ≡ get_or old i x
    seen old i x within is =
        let F : List X = take i old in
        let n : length (filter P F) + length (filter (λ y. not (P y)) F) ≡ i = both_counted F ∙ front_length i old (omega arith) in
        is ∙ ap (λ l. get_or (filter P F ++ (filter (λ y. not (P y)) F ++ l)) i x) (drop-cons old i x within)
        ∙ get_past (filter P F) (filter (λ y. not (P y)) F) (drop (suc i) old) (get_or old i x) x i n

    next_front : (old : List X) (i : ℕ) (x : X) → i < length old → x ≡ get_or old i x → take (i + 1) old ≡ take i old ++ x ∷ []
    next_front old i x within is = rw add-one (take-suc old i x within ∙ ap (λ y. take i old ++ y ∷ []) (sym is))

    next_back : (old : List X) (i : ℕ) (x : X) → i < length old → x ≡ get_or old i x → drop i old ≡ x ∷ drop (i + 1) old
    next_back old i x within is = rw add-one (drop-cons old i x within ∙ ap (λ y. y ∷ drop (suc i) old) (sym is))

    -- one that does not pass stays where it is
    core_stays : (old : List X) (i : ℕ) (x : X) → i < length old → x ≡ get_or old i x → P x ≡ false
        → (so_far old i ≡ so_far old (i + 1)) × (filter P (take i old) ≡ filter P (take (i + 1) old))
    core_stays old i x within is failing =
        let F : List X = take i old in
        let G : List X = filter (λ y. not (P y)) F in
        let D : List X = drop (i + 1) old in
        let more : filter P (take (i + 1) old) ≡ filter P F = ap (filter P) (next_front old i x within is) ∙ one_more false F x failing ∙ append-nil (filter P F) in
        let other : filter (λ y. not (P y)) (take (i + 1) old) ≡ G ++ x ∷ [] = ap (filter (λ y. not (P y))) (next_front old i x within is) ∙ one_other false F x failing in (
          ap (λ l. filter P F ++ (G ++ l)) (next_back old i x within is) ∙ ap (λ l. filter P F ++ l) (sym (append_assoc G (x ∷ []) D))
              ∙ ap₂ (λ a b. a ++ (b ++ D)) (sym more) (sym other),
          sym more,
        )

    core_moves : (old ys : List X) (i mine : ℕ) (x : X) → i < length old → x ≡ get_or old i x → P x ≡ true → mine ≡ length (filter P (take i old))
        → ys ≡ drop (length (mid_of mine (i + 1 - mine) (so_far old i)) - 1) (mid_of mine (i + 1 - mine) (so_far old i)) ++ take (length (mid_of mine (i + 1 - mine) (so_far old i)) - 1) (mid_of mine (i + 1 - mine) (so_far old i))
        → (put_mid mine (i + 1 - mine) (so_far old i) ys ≡ so_far old (i + 1)) × (length (filter P (take (i + 1) old)) ≡ mine + 1)
    core_moves old ys i mine x within is passing counted turned =
        let F : List X = take i old in
        let A : List X = filter P F in
        let B : List X = filter (λ y. not (P y)) F in
        let D : List X = drop (i + 1) old in
        let here : so_far old i ≡ A ++ (B ++ x ∷ D) = ap (λ l. A ++ (B ++ l)) (next_back old i x within is) in
        let n : length A + length B ≡ i = both_counted F ∙ front_length i old (omega arith) in
        let k : i + 1 - mine ≡ suc (length B) = omega (arith, n, counted) in
        let more : filter P (take (i + 1) old) ≡ A ++ x ∷ [] = ap (filter P) (next_front old i x within is) ∙ one_more true F x passing in
        let other : filter (λ y. not (P y)) (take (i + 1) old) ≡ B = ap (filter (λ y. not (P y))) (next_front old i x within is) ∙ one_other true F x passing ∙ append-nil B in
        let turn : (L : List X) → List X = λ L. drop (length (mid_of mine (i + 1 - mine) L) - 1) (mid_of mine (i + 1 - mine) L) ++ take (length (mid_of mine (i + 1 - mine) L) - 1) (mid_of mine (i + 1 - mine) L) in (
          ap (λ L. put_mid mine (i + 1 - mine) L ys) here
              ∙ forward A B D ys x mine (i + 1 - mine) counted k (turned ∙ ap turn here)
              ∙ sym (append_assoc A (x ∷ []) (B ++ D))
              ∙ ap₂ (λ a b. a ++ (b ++ D)) (sym more) (sym other),
          ap length more ∙ length-append A (x ∷ []) ∙ ap (λ m. m + 1) (sym counted),
        )

    pub stays : (old locks new : List X) (i mine mine' : ℕ) (x : X) → i < length old → locks ≡ so_far old i → mine ≡ length (filter P (take i old)) → mine ≤ i → x ≡ get_or locks i x → P x ≡ false
        → new ≡ locks → mine' ≡ mine → (new ≡ so_far old (i + 1)) × (mine' ≡ length (filter P (take (i + 1) old))) × (mine' ≤ i + 1)
    stays old locks new i mine mine' x within inv counted below at failing e f =
        let is = seen old i x within (subst (λ (L : List X). x ≡ get_or L i x) inv at) in
        let step = core_stays old i x within is failing in
        (e ∙ inv ∙ step.0, f ∙ counted ∙ ap length step.1, omega (arith, f, below))

    pub moves : (old locks new ys : List X) (i mine mine' : ℕ) (x : X) → i < length old → locks ≡ so_far old i → mine ≡ length (filter P (take i old)) → mine ≤ i → x ≡ get_or locks i x → P x ≡ true
        → new ≡ put_mid mine (i + 1 - mine) locks ys
        → ys ≡ drop (length (mid_of mine (i + 1 - mine) locks) - 1) (mid_of mine (i + 1 - mine) locks) ++ take (length (mid_of mine (i + 1 - mine) locks) - 1) (mid_of mine (i + 1 - mine) locks)
        → mine' ≡ mine + 1 → (new ≡ so_far old (i + 1)) × (mine' ≡ length (filter P (take (i + 1) old))) × (mine' ≤ i + 1)
    moves old locks new ys i mine mine' x within inv counted below at passing e turned f =
        let is = seen old i x within (subst (λ (L : List X). x ≡ get_or L i x) inv at) in
        let step = core_moves old ys i mine x within is passing counted
        (subst (λ (L : List X). ys ≡ drop (length (mid_of mine (i + 1 - mine) L) - 1) (mid_of mine (i + 1 - mine) L) ++ take (length (mid_of mine (i + 1 - mine) L) - 1) (mid_of mine (i + 1 - mine) L)) inv turned) in
        (e ∙ ap (λ L. put_mid mine (i + 1 - mine) L ys) inv ∙ step.0, f ∙ sym step.1, omega (arith, f, below))
