-- The first place in a list at which a test passes.
use Rattle.typed_rows.proofs.Prelude.{arith, ◌≡◌, inl, inr, ℕ, zero, suc, ◌+◌, Bool, true, false, cond, List, [], ◌∷◌, ◌++◌, length, Some, None, Option, option_map, option_and_then, slice_get, find, filter, refl, ap, ◌∙◌, position_from}
use Rattle.sqlite_rules.specs.Lists.{Has}

module _ {X : Type 0} (p : X → Bool) where
  shift : (xs : List X) (n : ℕ) → position_from p (n + 1) xs ≡ option_map suc (position_from p n xs)
  shift [] n = refl
  shift (x ∷ xs) n = go (p x) (shift xs (n + 1))
    where
      up : n + 1 ≡ suc n
      up = omega arith

      go : (b : Bool) → position_from p (n + 1 + 1) xs ≡ option_map suc (position_from p (n + 1) xs) → cond b (Some (n + 1)) (position_from p (n + 1 + 1) xs) ≡ option_map suc (cond b (Some n) (position_from p (n + 1) xs))
      go true more = ap Some up
      go false more = more

  -- the element there is the first that passes
  pub at_first : (xs : List X) → option_and_then (slice_get xs) (position_from p 0 xs) ≡ find p xs
  at_first [] = refl
  at_first (x ∷ xs) = go (p x) (at_first xs)
    where
      past : (o : Option ℕ) → option_and_then (slice_get (x ∷ xs)) (option_map suc o) ≡ option_and_then (slice_get xs) o
      past None = refl
      past (Some k) = refl

      go : (b : Bool) → option_and_then (slice_get xs) (position_from p 0 xs) ≡ find p xs → option_and_then (slice_get (x ∷ xs)) (cond b (Some 0) (position_from p 1 xs)) ≡ cond b (Some x) (find p xs)
      go true more = refl
      go false more = ap (option_and_then (slice_get (x ∷ xs))) (shift xs 0) ∙ past (position_from p 0 xs) ∙ more

  pub still_placed : (xs ys : List X) (n k : ℕ) → position_from p n xs ≡ Some k → position_from p n (xs ++ ys) ≡ Some k
  still_placed [] ys n k h = absurd (let a : None ≡ Some k = h in cc)
  still_placed (x ∷ xs) ys n k h = go (p x) (still_placed xs ys (n + 1) k) h
    where
      go : (b : Bool) → (position_from p (n + 1) xs ≡ Some k → position_from p (n + 1) (xs ++ ys) ≡ Some k) → cond b (Some n) (position_from p (n + 1) xs) ≡ Some k → cond b (Some n) (position_from p (n + 1) (xs ++ ys)) ≡ Some k
      go true more h = h
      go false more h = more h

  pub placed_last : (xs : List X) (y : X) (n : ℕ) → position_from p n xs ≡ None → p y ≡ true → position_from p n (xs ++ y ∷ []) ≡ Some (n + length xs)
  placed_last [] y n h here = rw here (ap Some (let e : n ≡ n + 0 = omega arith in e))
  placed_last (x ∷ xs) y n h here = go (p x) (λ k. placed_last xs y (n + 1) k here) h
    where
      go : (b : Bool) → (position_from p (n + 1) xs ≡ None → position_from p (n + 1) (xs ++ y ∷ []) ≡ Some (n + 1 + length xs)) → cond b (Some n) (position_from p (n + 1) xs) ≡ None
          → cond b (Some n) (position_from p (n + 1) (xs ++ y ∷ [])) ≡ Some (n + suc (length xs))
      go true more h = absurd (let a : Some n ≡ None = h in cc)
      go false more h = more h ∙ ap Some (let e : n + 1 + length xs ≡ n + suc (length xs) = omega arith in e)

  pub still_none : (xs ys : List X) (n : ℕ) → position_from p n xs ≡ None → ((m : ℕ) → position_from p m ys ≡ None) → position_from p n (xs ++ ys) ≡ None
  still_none [] ys n h none = none n
  still_none (x ∷ xs) ys n h none = go (p x) (λ k. still_none xs ys (n + 1) k none) h
    where
      go : (b : Bool) → (position_from p (n + 1) xs ≡ None → position_from p (n + 1) (xs ++ ys) ≡ None) → cond b (Some n) (position_from p (n + 1) xs) ≡ None → cond b (Some n) (position_from p (n + 1) (xs ++ ys)) ≡ None
      go true more h = absurd (let a : Some n ≡ None = h in cc)
      go false more h = more h

-- the first element that passes a test, in a list without some that fail another
module _ {X : Type 0} (p q : X → Bool) where
  pub found_left : (xs : List X) (x : X) → find p xs ≡ Some x → q x ≡ true → find p (filter q xs) ≡ Some x
  found_left [] x h keep = absurd (let a : None ≡ Some x = h in cc)
  found_left (y ∷ ys) x h keep = go (p y) (q y) refl refl (found_left ys x) h
    where
      go : (a b : Bool) → p y ≡ a → q y ≡ b → (find p ys ≡ Some x → q x ≡ true → find p (filter q ys) ≡ Some x) → cond a (Some y) (find p ys) ≡ Some x
          → find p (cond b (y ∷ filter q ys) (filter q ys)) ≡ Some x
      go true true e f more h = rw e h
      go true false e f more h = absurd (let same : y ≡ x = (let a : Some y ≡ Some x = h in cc) in let b : q y ≡ true = ap q same ∙ keep in cc)
      go false true e f more h = rw e (more h keep)
      go false false e f more h = more h keep

  pub none_left : (xs : List X) (n : ℕ) → position_from p n xs ≡ None → (m : ℕ) → position_from p m (filter q xs) ≡ None
  none_left [] n h m = refl
  none_left (x ∷ xs) n h m = go (p x) (q x) refl (none_left xs (n + 1)) h
    where
      go : (a b : Bool) → p x ≡ a → (position_from p (n + 1) xs ≡ None → (m : ℕ) → position_from p m (filter q xs) ≡ None) → cond a (Some n) (position_from p (n + 1) xs) ≡ None
          → position_from p m (cond b (x ∷ filter q xs) (filter q xs)) ≡ None
      go true b e more h = absurd (let a : Some n ≡ None = h in cc)
      go false true e more h = rw e (more h (m + 1))
      go false false e more h = more h m

-- no element passes the test
pub none_placed : {X : Type 0} (p : X → Bool) (xs : List X) (n : ℕ) → ((x : X) → Has xs x → p x ≡ false) → position_from p n xs ≡ None
none_placed p [] n none = refl
none_placed p (x ∷ xs) n none = rw (none x (inl refl)) (none_placed p xs (n + 1) (λ y h. none y (inr h)))

-- the place of an element that is found
pub placed_at : {X : Type 0} (p : X → Bool) (xs : List X) (x : X) → find p xs ≡ Some x → (k : ℕ) × (position_from p 0 xs ≡ Some k) × (slice_get xs k ≡ Some x)
placed_at p xs x h = go (position_from p 0 xs) refl (at_first p xs ∙ h)
  where
    go : (o : Option ℕ) → position_from p 0 xs ≡ o → option_and_then (slice_get xs) o ≡ Some x → (k : ℕ) × (position_from p 0 xs ≡ Some k) × (slice_get xs k ≡ Some x)
    go None e got = absurd (let a : None ≡ Some x = got in cc)
    go (Some k) e got = (k, e, got)

pub still_got : {X : Type 0} (xs ys : List X) (k : ℕ) (x : X) → slice_get xs k ≡ Some x → slice_get (xs ++ ys) k ≡ Some x
still_got [] ys k x h = absurd (let a : None ≡ Some x = h in cc)
still_got (y ∷ xs) ys zero x h = h
still_got (y ∷ xs) ys (suc k) x h = still_got xs ys k x h

pub got_last : {X : Type 0} (xs : List X) (y : X) → slice_get (xs ++ y ∷ []) (length xs) ≡ Some y
got_last [] y = refl
got_last (x ∷ xs) y = got_last xs y
