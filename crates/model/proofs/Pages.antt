-- A page has the locks of least id, and a walk misses none.
use Rattle.std.proofs.Common.{◌≡◌, ℕ, ◌<◌, ◌≤◌, inl, inr, ◌⊎◌, Bool, true, false, nat_le, List, [], ◌∷◌, ◌++◌, length, take, drop, filter, refl, sym, ap, subst, ◌∙◌, arith, Option, Some, None, MatchOption, length-take, option_map, zero, suc, nat_lt, bytes_eq}
use Rattle.std.specs.Bool.{⊤}
use Rattle.std.specs.List.{AllByRecursion, All, AllPairs, Contains}
use Rattle.std.proofs.lemmas.Bool.{leb-true, cond_both, le-leb, ltb-true, ltb-false}
use Rattle.std.proofs.lemmas.List.Kept.{AllPairs-filter}
use Rattle.std.proofs.lemmas.Slice.Eq.{bytes_eq-Decides}
use Rattle.std.proofs.lemmas.List.Elements.{recursion_from_All, All-from_recursion}
use Rattle.model.specs.World.{Lock, DiffersInId}
use Rattle.model.specs.RepoState.{locks_of}
use Rattle.model.specs.Orders.{first, insert_by, sort_by}
use Rattle.model.specs.Pages.{page_of, IsBelow, IsFullBelow, IsPage, IsNext, HoldsAllFrom, Leg, IsWalk, walk_locks}
use Rattle.model.specs.Laws.{LocksRise, PageIsLeast, WalksAreWhole}
use Rattle.model.proofs.Lists.{each_placed, each_rising, both_each, In, in_from, into, each_in, each_of, each_weaker, each_append, each_filter, in_before_filter, in_filter, each_passes}

-- ---- locks that rise

abbrev pub Rise : List Lock → Type 0
Rise [] = ⊤
Rise (k ∷ locks) = AllByRecursion (IsBelow k) locks × Rise locks

pub rise_from : (locks : List Lock) → AllPairs IsBelow locks → Rise locks
rise_from [] all = tt
rise_from (k ∷ locks) all = (
  recursion_from_All (IsBelow k) locks (λ j d less. all 0 (suc j) d (omega arith) (omega (arith, less))),
  rise_from locks (λ i j d below less. all (suc i) (suc j) d (omega (arith, below)) (omega (arith, less))),
)

pub into_pairs : (locks : List Lock) → Rise locks → AllPairs IsBelow locks
into_pairs [] r i j d below less = absurd (omega (arith, less))
into_pairs (k ∷ locks) r i zero d below less = absurd (omega (arith, below))
into_pairs (k ∷ locks) r zero (suc j) d below less = All-from_recursion (IsBelow k) locks r.0 j d (omega (arith, less))
into_pairs (k ∷ locks) r (suc i) (suc j) d below less = into_pairs locks r.1 i j d (omega (arith, below)) (omega (arith, less))

each_take : (P : Lock → Type 0) (n : ℕ) (locks : List Lock) → AllByRecursion P locks → AllByRecursion P (take n locks)
each_take P zero locks all = tt
each_take P (suc n) [] all = tt
each_take P (suc n) (k ∷ locks) all = (all.0, each_take P n locks all.1)

rise_take : (n : ℕ) (locks : List Lock) → Rise locks → Rise (take n locks)
rise_take zero locks r = tt
rise_take (suc n) [] r = tt
rise_take (suc n) (k ∷ locks) r = (each_take (IsBelow k) n locks r.0, rise_take n locks r.1)

rise_filter : (p : Lock → Bool) (locks : List Lock) → Rise locks → Rise (filter p locks)
rise_filter p [] r = tt
rise_filter p (k ∷ locks) r =
    cond_both (p k) (k ∷ filter p locks) (filter p locks) Rise (λ _. (each_filter (IsBelow k) p locks r.0, rise_filter p locks r.1)) (λ _. rise_filter p locks r.1)

rise_append : (xs ys : List Lock) → Rise xs → Rise ys → AllByRecursion (λ x. AllByRecursion (IsBelow x) ys) xs → Rise (xs ++ ys)
rise_append [] ys a b all = b
rise_append (x ∷ xs) ys a b all = (each_append (IsBelow x) xs ys a.0 all.0, rise_append xs ys a.1 b all.1)

-- ---- the first of them, and the one after

abbrev IsRest : ℕ → List Lock → Option Lock → Type 0
IsRest n left None = (l : Lock) → In left l → In (take n left) l
IsRest n left (Some m) =
    (length (take n left) ≡ n) × AllByRecursion (λ k. k.id < m.id) (take n left) × In left m × ((l : Lock) → In left l → In (take n left) l ⊎ (m.id ≤ l.id))

least_first : (k : Lock) (left : List Lock) (l : Lock) → AllByRecursion (IsBelow k) left → In (k ∷ left) l → k.id ≤ l.id
least_first k left l all (inl e) = omega (arith, ap (λ (j : Lock). j.id) e)
least_first k left l all (inr is) = let below = each_in (IsBelow k) left l all is in omega (arith, below)

one_after : (k m : Lock) (n : ℕ) (left : List Lock) → AllByRecursion (IsBelow k) left → IsRest n left (Some m) → (l : Lock) → In (k ∷ left) l
    → ((k ≡ l) ⊎ In (take n left) l) ⊎ (m.id ≤ l.id)
one_after k m n left all b l (inl e) = inl (inl e)
one_after k m n left all b l (inr is) = moved (b.3 l is)
  where
    moved : In (take n left) l ⊎ (m.id ≤ l.id) → ((k ≡ l) ⊎ In (take n left) l) ⊎ (m.id ≤ l.id)
    moved (inl x) = inl (inr x)
    moved (inr x) = inr x

all_taken : (k : Lock) (n : ℕ) (left : List Lock) → IsRest n left None → (l : Lock) → In (k ∷ left) l → (k ≡ l) ⊎ In (take n left) l
all_taken k n left b l (inl e) = inl e
all_taken k n left b l (inr is) = inr (b l is)

one_more : (k : Lock) (n : ℕ) (left : List Lock) (o : Option Lock) → AllByRecursion (IsBelow k) left → IsRest n left o → IsRest (suc n) (k ∷ left) o
one_more k n left None all b = all_taken k n left b
one_more k n left (Some m) all b = (omega (arith, b.0), (each_in (IsBelow k) left m all b.2, b.1), inr b.2, one_after k m n left all b)

rest_is : (n : ℕ) (left : List Lock) → Rise left → IsRest n left (first (drop n left))
rest_is zero [] r = λ l is. is
rest_is zero (k ∷ left) r = (refl, tt, inl refl, λ l is. inr (least_first k left l r.0 is))
rest_is (suc n) [] r = λ l is. is
rest_is (suc n) (k ∷ left) r = one_more k n left (first (drop n left)) r.0 (rest_is n left r.1)

-- ---- a page

module _ (locks left : List Lock) (cursor limit : ℕ) (r : Rise left) (all : AllByRecursion (λ (l : Lock). cursor ≤ l.id) left)
    (was : (l : Lock) → In left l → In locks l) (is_left : (l : Lock) → In locks l → cursor ≤ l.id → In left l) where
  abbrev IsTaken : Lock → Type 0
  IsTaken l = Contains (take limit left) l

  page_rises : AllPairs IsBelow (take limit left)
  page_rises = into_pairs (take limit left) (rise_take limit left r)

  page_within : length (take limit left) ≤ limit
  page_within = omega (arith, length-take limit left)

  page_from : All (λ (l : Lock). cursor ≤ l.id) (take limit left)
  page_from = All-from_recursion (λ (l : Lock). cursor ≤ l.id) (take limit left) (each_take (λ (l : Lock). cursor ≤ l.id) limit left all)

  page_shown : All (Contains locks) (take limit left)
  page_shown = All-from_recursion (Contains locks) (take limit left) (each_take (Contains locks) limit left (each_of (Contains locks) left (λ l is. into locks l (was l is))))

  in_or_after : (m : Lock) → IsRest limit left (Some m) → (l : Lock) → Contains locks l → cursor ≤ l.id → Contains (take limit left) l ⊎ (m.id ≤ l.id)
  in_or_after m b l is above = moved (b.3 l (is_left l (in_from locks l is) above))
    where
      moved : In (take limit left) l ⊎ (m.id ≤ l.id) → Contains (take limit left) l ⊎ (m.id ≤ l.id)
      moved (inl x) = inl (into (take limit left) l x)
      moved (inr x) = inr x

  full_below : (m : Lock) → IsRest limit left (Some m) → (l : Lock) → Contains (take limit left) l ⊎ (m.id ≤ l.id)
      → Contains (take limit left) l ⊎ IsFullBelow limit l.id (record { locks = take limit left; next = Some m.id })
  full_below m b l (inl x) = inl x
  full_below m b l (inr x) = inr (record {
    full = b.0;
    below = All-from_recursion (λ (k : Lock). k.id < l.id) (take limit left) (each_weaker (λ k. k.id < m.id) (λ k. k.id < l.id) (take limit left) (λ k h. omega (arith, h, x)) b.1);
  })

  page_parts : (o : Option Lock) → IsRest limit left o → IsPage locks cursor limit (record { locks = take limit left; next = option_map (λ (l : Lock). l.id) o })
  page_parts None b = record {
    rise = page_rises;
    within = page_within;
    from = page_from;
    among = page_shown;
    least = λ l is above. inl (into (take limit left) l (b l (is_left l (in_from locks l is) above)));
    next = λ l is above. into (take limit left) l (b l (is_left l (in_from locks l is) above));
  }
  page_parts (Some m) b = record {
    rise = page_rises;
    within = page_within;
    from = page_from;
    among = page_shown;
    least = λ l is above. full_below m b l (in_or_after m b l is above);
    next = record {
      above = All-from_recursion (λ (k : Lock). k.id < m.id) (take limit left) b.1;
      from = each_in (λ (l : Lock). cursor ≤ l.id) left m all b.2;
      some = (m, into locks m (was m b.2), refl);
      least = in_or_after m b;
    };
  }

page_rise : (cursor limit : ℕ) (locks : List Lock) → Rise locks → IsPage locks cursor limit (page_of cursor limit locks)
page_rise cursor limit locks r =
    let from : Lock → Bool = λ l. nat_le cursor l.id in
    page_parts locks (filter from locks) cursor limit (rise_filter from locks r)
    (each_weaker (λ l. from l ≡ true) (λ l. cursor ≤ l.id) (filter from locks) (λ l e. leb-true cursor l.id e) (each_passes from locks))
    (λ l is. in_before_filter from locks l is) (λ l is above. in_filter from locks l is (le-leb cursor l.id above))
    (first (drop limit (filter from locks))) (rest_is limit (filter from locks) (rise_filter from locks r))

pub page_is_least : PageIsLeast
page_is_least cursor limit locks all = page_rise cursor limit locks (rise_from locks all)

-- ---- a walk

pub record IsWhole (cursor : ℕ) (legs : List Leg) : Type 0 where
  pub rise : Rise (walk_locks legs)
  pub from : AllByRecursion (λ l. cursor ≤ l.id) (walk_locks legs)
  pub complete : (l : Lock) → cursor ≤ l.id → All (λ leg. Contains leg.shown l) legs → In (walk_locks legs) l

in_left : (xs ys : List Lock) (l : Lock) → In xs l → In (xs ++ ys) l
in_left (x ∷ xs) ys l (inl e) = inl e
in_left (x ∷ xs) ys l (inr is) = inr (in_left xs ys l is)
in_left [] ys l is = absurd is

in_right : (xs ys : List Lock) (l : Lock) → In ys l → In (xs ++ ys) l
in_right [] ys l is = is
in_right (x ∷ xs) ys l is = inr (in_right xs ys l is)

-- a page, and then the pages that begin at its next id
joined : (cursor : ℕ) (leg : Leg) (legs : List Leg) (n : ℕ) → IsPage leg.shown cursor leg.limit leg.page → leg.page.next ≡ Some n → IsWhole n legs → IsWhole cursor (leg ∷ legs)
joined cursor leg legs n p e w =
    let locks = leg.page.locks in
    let b = subst (λ (o : Option ℕ). MatchOption o (HoldsAllFrom leg.shown cursor leg.page) (IsNext leg.shown cursor leg.page)) e p.next in
    let below = recursion_from_All (λ (l : Lock). l.id < n) locks b.above in
    record {
      rise = rise_append locks (walk_locks legs) (rise_from locks p.rise) w.rise
          (each_weaker (λ l. l.id < n) (λ l. AllByRecursion (IsBelow l) (walk_locks legs)) locks (λ l low. each_weaker (λ k. n ≤ k.id) (IsBelow l) (walk_locks legs) (λ k high. omega (arith, low, high)) w.from) below);
      from = each_append (λ l. cursor ≤ l.id) locks (walk_locks legs) (recursion_from_All (λ (l : Lock). cursor ≤ l.id) locks p.from)
          (each_weaker (λ l. n ≤ l.id) (λ l. cursor ≤ l.id) (walk_locks legs) (λ l high. omega (arith, high, b.from)) w.from);
      complete = λ l above all. in_page_or_after l (b.least l (all 0 leg (omega arith)) above) (λ j d less. all (suc j) d (omega (arith, less)));
    }
  where
    in_page_or_after : (l : Lock) → Contains leg.page.locks l ⊎ (n ≤ l.id) → All (λ (k : Leg). Contains k.shown l) legs → In (leg.page.locks ++ walk_locks legs) l
    in_page_or_after l (inl c) all = in_left leg.page.locks (walk_locks legs) l (in_from leg.page.locks l c)
    in_page_or_after l (inr high) all = in_right leg.page.locks (walk_locks legs) l (w.complete l high all)

last_leg : (cursor : ℕ) (leg : Leg) → IsPage leg.shown cursor leg.limit leg.page → leg.page.next ≡ None → IsWhole cursor (leg ∷ [])
last_leg cursor leg p e =
    let locks = leg.page.locks in
    let b = subst (λ (o : Option ℕ). MatchOption o (HoldsAllFrom leg.shown cursor leg.page) (IsNext leg.shown cursor leg.page)) e p.next in
    record {
      rise = rise_append locks [] (rise_from locks p.rise) tt (each_of (λ l. AllByRecursion (IsBelow l) []) locks (λ l is. tt));
      from = each_append (λ l. cursor ≤ l.id) locks [] (recursion_from_All (λ (l : Lock). cursor ≤ l.id) locks p.from) tt;
      complete = λ l above all. in_left locks [] l (in_from locks l (b l (all 0 leg (omega arith)) above));
    }

walk_whole : (cursor : ℕ) (legs : List Leg) → IsWalk cursor legs → IsWhole cursor legs
walk_whole cursor [] w = absurd w
walk_whole cursor (leg ∷ []) w = last_leg cursor leg w.0 w.1
walk_whole cursor (leg ∷ more ∷ legs) w = at leg.page.next refl w.1 (λ n. walk_whole n (more ∷ legs))
  where
    at : (o : Option ℕ) → leg.page.next ≡ o → MatchOption o ⊥ (λ n. IsWalk n (more ∷ legs)) → ((n : ℕ) → IsWalk n (more ∷ legs) → IsWhole n (more ∷ legs)) → IsWhole cursor (leg ∷ more ∷ legs)
    at None e walk rest = absurd walk
    at (Some n) e walk rest = joined cursor leg (more ∷ legs) n w.0 e (rest n walk)

pub walks_are_whole : WalksAreWhole
walks_are_whole cursor legs w =
    let whole = walk_whole cursor legs w in
    record { rise = into_pairs (walk_locks legs) whole.rise; complete = λ l above all. into (walk_locks legs) l (whole.complete l above all) }

-- ---- the locks of a repository

abbrev HasOther : Lock → Lock → Type 0
HasOther x y = x.id ≡ y.id → ⊥

later_id : (x y : Lock) → HasOther x y → y.id ≤ x.id → y.id < x.id
later_id x y other least = at (nat_lt y.id x.id) refl
  where
    at : (v : Bool) → nat_lt y.id x.id ≡ v → y.id < x.id
    at true e = ltb-true y.id x.id e
    at false e = absurd (other (let most = ltb-false y.id x.id e in omega (arith, least, most)))

rise_placed : (x : Lock) (ys : List Lock) → AllByRecursion (HasOther x) ys → Rise ys → Rise (insert_by (λ (a b : Lock). nat_lt a.id b.id) x ys)
rise_placed x [] others r = (tt, tt)
rise_placed x (y ∷ ys) others r =
    let before : Lock → Lock → Bool = λ a b. nat_lt a.id b.id in
    cond_both (nat_lt x.id y.id) (x ∷ y ∷ ys) (y ∷ insert_by before x ys) Rise
    (λ e. ((ltb-true x.id y.id e, each_weaker (IsBelow y) (IsBelow x) ys (λ k h. let low = ltb-true x.id y.id e in omega (arith, low, h)) r.0), r))
    (λ e. (each_placed (IsBelow y) before x ys (later_id x y others.0 (ltb-false x.id y.id e)) r.0, rise_placed x ys others.1 r.1))

abbrev AreOthers : List Lock → Type 0
AreOthers [] = ⊤
AreOthers (x ∷ xs) = AllByRecursion (HasOther x) xs × AreOthers xs

rise_rising : (xs : List Lock) → AreOthers xs → Rise (sort_by (λ (a b : Lock). nat_lt a.id b.id) xs)
rise_rising [] others = tt
rise_rising (x ∷ xs) others =
    let before : Lock → Lock → Bool = λ a b. nat_lt a.id b.id in
    rise_placed x (sort_by before xs) (each_rising (HasOther x) before xs others.0) (rise_rising xs others.1)

others_of : (repo : List ℕ) (xs : List Lock) → AllByRecursion (λ (l : Lock). l.repo ≡ repo) xs → AllPairs DiffersInId xs → AreOthers xs
others_of repo [] own all = tt
others_of repo (x ∷ xs) own all = (
  each_weaker (λ k. (k.repo ≡ repo) × DiffersInId x k) (HasOther x) xs (λ k h. h.1 (own.0 ∙ sym h.0))
      (both_each (λ (k : Lock). k.repo ≡ repo) (DiffersInId x) xs own.1 (recursion_from_All (DiffersInId x) xs (λ j d less. all 0 (suc j) d (omega arith) (omega (arith, less))))),
  others_of repo xs own.1 (λ i j d below less. all (suc i) (suc j) d (omega (arith, below)) (omega (arith, less))),
)

pub locks_rise : LocksRise
locks_rise world repo w =
    let q : Lock → Bool = λ l. bytes_eq l.repo repo in
    into_pairs (locks_of repo world) (rise_rising (filter q world.locks) (others_of repo (filter q world.locks)
    (each_weaker (λ l. q l ≡ true) (λ l. l.repo ≡ repo) (filter q world.locks) (λ l e. (bytes_eq-Decides l.repo repo).0 e) (each_passes q world.locks))
    (AllPairs-filter DiffersInId q world.locks w.ids)))
