-- The locks of a repository do not depend on the order in which the world lists them.
use Rattle.std.proofs.Common.{◌≡◌, ℕ, inl, inr, ◌⊎◌, Bool, true, nat_lt, List, [], ◌∷◌, filter, refl, sym, ap, ◌∙◌, arith, bytes_eq}
use Rattle.std.specs.List.{AllByRecursion}
use Rattle.std.proofs.lemmas.Bool.{cond_both}
use Rattle.std.proofs.lemmas.Slice.Eq.{bytes_eq-Decides}
use Rattle.model.specs.World.{World, Lock}
use Rattle.model.specs.Orders.{insert_by, sort_by}
use Rattle.model.specs.RepoState.{locks_of}
use Rattle.model.specs.Pages.{IsBelow}
use Rattle.model.specs.Laws.{HaveSame, LocksAreThose, LocksIgnoreOrder}
use Rattle.model.proofs.Lists.{In, into, in_from, each_in, in_filter, in_before_filter, each_passes}
use Rattle.model.proofs.Pages.{Rise, rise_from, locks_rise}

-- ---- sorting keeps the members

after_first : {A : Type 0} (x y z : A) (ys inserted : List A) → ((x ≡ z) ⊎ In ys z → In inserted z) → (x ≡ z) ⊎ ((y ≡ z) ⊎ In ys z) → (y ≡ z) ⊎ In inserted z
after_first x y z ys inserted f (inl e) = inr (f (inl e))
after_first x y z ys inserted f (inr (inl e)) = inl e
after_first x y z ys inserted f (inr (inr i)) = inr (f (inr i))

in_inserted : {A : Type 0} (before : A → A → Bool) (x : A) (ys : List A) (z : A) → In (x ∷ ys) z → In (insert_by before x ys) z
in_inserted before x [] z is = is
in_inserted before x (y ∷ ys) z is =
    cond_both (before x y) (x ∷ y ∷ ys) (y ∷ insert_by before x ys) (λ l. In l z) (λ _. is)
    (λ _. after_first x y z ys (insert_by before x ys) (in_inserted before x ys z) is)

before_first : {A : Type 0} (x y z : A) (ys inserted : List A) → (In inserted z → (x ≡ z) ⊎ In ys z) → (y ≡ z) ⊎ In inserted z → (x ≡ z) ⊎ ((y ≡ z) ⊎ In ys z)
before_first {A = A} x y z ys inserted f (inl e) = inr (inl e)
before_first {A = A} x y z ys inserted f (inr i) = moved (f i)
  where
    moved : (x ≡ z) ⊎ In ys z → (x ≡ z) ⊎ ((y ≡ z) ⊎ In ys z)
    moved (inl e) = inl e
    moved (inr k) = inr (inr k)

was_inserted : {A : Type 0} (before : A → A → Bool) (x : A) (ys : List A) (z : A) → In (insert_by before x ys) z → In (x ∷ ys) z
was_inserted before x [] z is = is
was_inserted before x (y ∷ ys) z is =
    cond_both (before x y) (x ∷ y ∷ ys) (y ∷ insert_by before x ys) (λ l. In l z → In (x ∷ y ∷ ys) z) (λ _ i. i)
    (λ _. before_first x y z ys (insert_by before x ys) (was_inserted before x ys z)) is

in_sorted : {A : Type 0} (before : A → A → Bool) (xs : List A) (z : A) → In xs z → In (sort_by before xs) z
in_sorted before [] z is = is
in_sorted before (x ∷ xs) z (inl e) = in_inserted before x (sort_by before xs) z (inl e)
in_sorted before (x ∷ xs) z (inr i) = in_inserted before x (sort_by before xs) z (inr (in_sorted before xs z i))

first_or : {A : Type 0} (x z : A) (xs ys : List A) → (In ys z → In xs z) → (x ≡ z) ⊎ In ys z → (x ≡ z) ⊎ In xs z
first_or x z xs ys f (inl e) = inl e
first_or x z xs ys f (inr i) = inr (f i)

was_sorted : {A : Type 0} (before : A → A → Bool) (xs : List A) (z : A) → In (sort_by before xs) z → In xs z
was_sorted before [] z is = is
was_sorted before (x ∷ xs) z is =
    first_or x z xs (sort_by before xs) (was_sorted before xs z) (was_inserted before x (sort_by before xs) z is)

-- ---- lists that rise and have the same members are equal

first_of : (x y : Lock) (xs ys : List Lock) → AllByRecursion (IsBelow x) xs → AllByRecursion (IsBelow y) ys → In (y ∷ ys) x → In (x ∷ xs) y → x ≡ y
first_of x y xs ys low below (inl e) there = sym e
first_of x y xs ys low below (inr i) (inl e) = e
first_of x y xs ys low below (inr i) (inr j) =
    let under = each_in (IsBelow y) ys x below i in let over = each_in (IsBelow x) xs y low j in absurd (omega (arith, under, over))

past_first : (x y : Lock) (xs ys : List Lock) → x ≡ y → AllByRecursion (IsBelow x) xs → (z : Lock) → In xs z → In (y ∷ ys) z → In ys z
past_first x y xs ys same low z there (inr i) = i
past_first x y xs ys same low z there (inl e) =
    let under = each_in (IsBelow x) xs z low there in absurd (omega (arith, under, ap (λ (l : Lock). l.id) (same ∙ e)))

pub same_rise : (xs ys : List Lock) → Rise xs → Rise ys → ((z : Lock) → In xs z → In ys z) → ((z : Lock) → In ys z → In xs z) → xs ≡ ys
same_rise [] [] r s f g = refl
same_rise [] (y ∷ ys) r s f g = absurd (g y (inl refl))
same_rise (x ∷ xs) [] r s f g = absurd (f x (inl refl))
same_rise (x ∷ xs) (y ∷ ys) r s f g =
    let same = first_of x y xs ys r.0 s.0 (f x (inl refl)) (g y (inl refl)) in
    ap (λ l. l ∷ xs) same
    ∙ ap (λ ls. y ∷ ls) (same_rise xs ys r.1 s.1
    (λ z i. past_first x y xs ys same r.0 z i (f z (inr i)))
    (λ z i. past_first y x ys xs (sym same) s.0 z i (g z (inr i))))

-- ---- the locks of a repository

own_of : (repo : List ℕ) (world : World) (l : Lock) → In (locks_of repo world) l → In world.locks l × (l.repo ≡ repo)
own_of repo world l is =
    let q : Lock → Bool = λ k. bytes_eq k.repo repo in
    let left = was_sorted (λ (a b : Lock). nat_lt a.id b.id) (filter q world.locks) l is in (
      in_before_filter q world.locks l left,
      (bytes_eq-Decides l.repo repo).0 (each_in (λ (k : Lock). q k ≡ true) (filter q world.locks) l (each_passes q world.locks) left),
    )

of_own : (repo : List ℕ) (world : World) (l : Lock) → In world.locks l → l.repo ≡ repo → In (locks_of repo world) l
of_own repo world l is own =
    let q : Lock → Bool = λ k. bytes_eq k.repo repo in
    in_sorted (λ (a b : Lock). nat_lt a.id b.id) (filter q world.locks) l (in_filter q world.locks l is ((bytes_eq-Decides l.repo repo).1 own))

pub locks_are_those : LocksAreThose
locks_are_those world repo l = (
  λ is. let own = own_of repo world l (in_from (locks_of repo world) l is) in (into world.locks l own.0, own.1),
  λ is. into (locks_of repo world) l (of_own repo world l (in_from world.locks l is.0) is.1),
)

in_other : (a b : World) (repo : List ℕ) → HaveSame a.locks b.locks → (l : Lock) → In (locks_of repo a) l → In (locks_of repo b) l
in_other a b repo same l is =
    let own = own_of repo a l is in of_own repo b l (in_from b.locks l ((same l).0 (into a.locks l own.0))) own.1

turned : (a b : World) → HaveSame a.locks b.locks → HaveSame b.locks a.locks
turned a b same l = ((same l).1, (same l).0)

pub locks_ignore_order : LocksIgnoreOrder
locks_ignore_order a b repo w v same =
    same_rise (locks_of repo a) (locks_of repo b) (rise_from (locks_of repo a) (locks_rise a repo w)) (rise_from (locks_of repo b) (locks_rise b repo v))
    (in_other a b repo same) (in_other b a repo (turned a b same))
