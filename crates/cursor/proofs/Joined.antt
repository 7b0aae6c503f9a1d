-- The windows joined are all the locks, and the first of them are the page.
use Rattle.cursor.proofs.Prelude.{◌≡◌, ◌∙◌, ◌<◌, ◌≤◌, ◌+◌, ℕ, zero, suc, Bool, true, false, cond, nat_lt, nat_le, List, [], ◌∷◌, ◌++◌, map, take, drop, filter, length, option_map, Option, Some, None, refl, sym, ap, ap₂, subst, arith, append_assoc, filter-append, recursion_from_All, AllPairs-filter, World, IsWorld, IsLock, Lock, locks_of, IsBelow, Rise, rise_from, locks_rise, LockRow, lock_seen, Test, cut, left, after_row, next_start, unless_full}
use Rattle.std.proofs.Common.{AllPairs}
use Rattle.std.specs.List.{AllByRecursion, slice_get}
use Rattle.std.proofs.lemmas.Bool.Decides.{nat_tests}
use Rattle.std.proofs.lemmas.List.{take-append-drop}
use Rattle.names.specs.Texts.{last_lock_id}
use Rattle.model.specs.Orders.{first}
use Rattle.model.proofs.Lists.{into, in_from, each_in, each_of, each_weaker, each_passes}
use Rattle.model.proofs.Ordered.{locks_are_those}

-- ---- ids

pub low_enough : (a b : ℕ) → nat_le a b ≡ true → a ≤ b
low_enough a b h = grind (arith, nat_tests)

is_low : (a b : ℕ) → a ≤ b → nat_le a b ≡ true
is_low a b h = grind (arith, nat_tests)

not_low : (a b : ℕ) → b < a → nat_le a b ≡ false
not_low a b h = grind (arith, nat_tests)

not_less : (a b : ℕ) → nat_lt a b ≡ false → b ≤ a
not_less a b h = grind (arith, nat_tests)

less : (a b : ℕ) → nat_lt a b ≡ true → a < b
less a b h = grind (arith, nat_tests)

-- ---- the element at a place

get_map : {A B : Type 0} (f : A → B) (xs : List A) (n : ℕ) → slice_get (map f xs) n ≡ option_map f (slice_get xs n)
get_map f [] n = refl
get_map f (x ∷ xs) zero = refl
get_map f (x ∷ xs) (suc n) = get_map f xs n

get_take : {A : Type 0} (n k : ℕ) (xs : List A) → k < n → slice_get (take n xs) k ≡ slice_get xs k
get_take zero k xs h = absurd (omega (arith, h))
get_take (suc n) k [] h = refl
get_take (suc n) zero (x ∷ xs) h = refl
get_take (suc n) (suc k) (x ∷ xs) h = get_take n k xs (omega (arith, h))

get_first : {A : Type 0} (n : ℕ) (xs : List A) → first (drop n xs) ≡ slice_get xs n
get_first zero [] = refl
get_first zero (x ∷ xs) = refl
get_first (suc n) [] = refl
get_first (suc n) (x ∷ xs) = get_first n xs

-- there is nothing after the end of a list
none_after : {A : Type 0} (n : ℕ) (xs : List A) → slice_get xs n ≡ None → drop (suc n) xs ≡ []
none_after n [] e = refl
none_after zero (x ∷ xs) e = absurd (cc)
none_after (suc n) (x ∷ xs) e = none_after n xs e

at_place : {A : Type 0} (P : A → Type 0) (n : ℕ) (xs : List A) (x : A) → slice_get xs n ≡ Some x → AllByRecursion P xs → P x
at_place P n [] x e all = absurd (cc)
at_place P zero (y ∷ xs) x e all = let same : y ≡ x = cc in subst P same all.0
at_place P (suc n) (y ∷ xs) x e all = at_place P n xs x e all.1

-- ---- filters

none_pass : {A : Type 0} (p : A → Bool) (xs : List A) → AllByRecursion (λ x. p x ≡ false) xs → filter p xs ≡ []
none_pass p [] h = refl
none_pass p (x ∷ xs) h = rw (h.0) (none_pass p xs h.1)

all_pass : {A : Type 0} (p : A → Bool) (xs : List A) → AllByRecursion (λ x. p x ≡ true) xs → filter p xs ≡ xs
all_pass p [] h = refl
all_pass p (x ∷ xs) h = rw (h.0) (ap (λ l. x ∷ l) (all_pass p xs h.1))

swap_filters : {A : Type 0} (p q : A → Bool) (xs : List A) → filter p (filter q xs) ≡ filter q (filter p xs)
swap_filters p q [] = refl
swap_filters p q (x ∷ xs) = at (p x) (q x) refl refl (swap_filters p q xs)
  where
    at : (v w : Bool) → p x ≡ v → q x ≡ w → filter p (filter q xs) ≡ filter q (filter p xs) → filter p (cond w (x ∷ filter q xs) (filter q xs)) ≡ filter q (cond v (x ∷ filter p xs) (filter p xs))
    at true true a b rest = rw (a, b) (ap (λ l. x ∷ l) rest)
    at true false a b rest = rw b rest
    at false true a b rest = rw a rest
    at false false a b rest = rest

-- the locks from an id on
abbrev from : ℕ → List Lock → List Lock
from start locks = filter (λ l. nat_le start l.id) locks

from_later : (a b : ℕ) (xs : List Lock) → a ≤ b → from b (from a xs) ≡ from b xs
from_later a b [] h = refl
from_later a b (x ∷ xs) h = at (nat_le a x.id) (nat_le b x.id) refl refl (from_later a b xs h)
  where
    no : (u : ℕ) → nat_le a u ≡ false → nat_le b u ≡ true → ⊥
    no u p q = grind (arith, nat_tests)

    at : (v w : Bool) → nat_le a x.id ≡ v → nat_le b x.id ≡ w → from b (from a xs) ≡ from b xs → from b (cond v (x ∷ from a xs) (from a xs)) ≡ cond w (x ∷ from b xs) (from b xs)
    at true true p q rest = rw q (ap (λ l. x ∷ l) rest)
    at true false p q rest = rw q rest
    at false true p q rest = absurd (no x.id p q)
    at false false p q rest = rest

-- the locks after a place are those with a later id
drop_from : (n : ℕ) (xs : List Lock) (y : Lock) → Rise xs → slice_get xs n ≡ Some y → drop (suc n) xs ≡ from (y.id + 1) xs
drop_from n [] y up e = absurd (cc)
drop_from zero (x ∷ xs) y up e =
    let same : x ≡ y = cc in
    let id : x.id ≡ y.id = ap (λ (l : Lock). l.id) same in
    let gone : nat_le (y.id + 1) x.id ≡ false = not_low (y.id + 1) x.id (omega (arith, id)) in
    rw gone (sym (all_pass (λ l. nat_le (y.id + 1) l.id) xs (each_weaker (IsBelow x) (λ z. nat_le (y.id + 1) z.id ≡ true) xs (λ z h. is_low (y.id + 1) z.id (omega (arith, id, h))) up.0)))
drop_from (suc n) (x ∷ xs) y up e =
    let low = at_place (IsBelow x) n xs y e up.0 in
    let gone : nat_le (y.id + 1) x.id ≡ false = not_low (y.id + 1) x.id (omega (arith, low)) in
    rw gone (drop_from n xs y up.1 e)

-- ---- one window

module _ (repo : List ℕ) (locks : List Lock) (up : AllPairs IsBelow locks) (low : AllByRecursion (λ l. l.id ≤ last_lock_id) locks) (test : Test) where
  past_last : (id : ℕ) → last_lock_id ≤ id → from (id + 1) locks ≡ []
  past_last id h = none_pass (λ l. nat_le (id + 1) l.id) locks (each_weaker (λ l. l.id ≤ last_lock_id) (λ l. nat_le (id + 1) l.id ≡ false) locks (λ l k. not_low (id + 1) l.id (omega (arith, h, k))) low)

  module _ (start : ℕ) (window : List LockRow) (e : map (lock_seen repo) window ≡ take 64 (from start locks)) where
    last_seen : slice_get (from start locks) 63 ≡ option_map (lock_seen repo) (slice_get window 63)
    last_seen = sym (get_take 64 63 (from start locks) (omega arith)) ∙ ap (λ l. slice_get l 63) (sym e) ∙ get_map (lock_seen repo) window 63

    from_rises : Rise (from start locks)
    from_rises = rise_from (from start locks) (AllPairs-filter IsBelow (λ l. nat_le start l.id) locks up)

    -- after a row in the last place come the locks with a later id
    after_last : (row : LockRow) → slice_get window 63 ≡ Some row → drop 64 (from start locks) ≡ from (row.id + 1) locks
    after_last row there =
        let seen : slice_get (from start locks) 63 ≡ Some (lock_seen repo row) = last_seen ∙ ap (option_map (lock_seen repo)) there in
        let reached = low_enough start row.id (at_place (λ x. nat_le start x.id ≡ true) 63 (from start locks) (lock_seen repo row) seen (each_passes (λ x. nat_le start x.id) locks)) in
        drop_from 63 (from start locks) (lock_seen repo row) from_rises seen ∙ from_later start (row.id + 1) locks (omega (arith, reached))

    more : (row : LockRow) (v : Bool) → slice_get window 63 ≡ Some row → nat_lt row.id last_lock_id ≡ v → left locks (cond v (Some (row.id + 1)) None) ≡ drop 64 (from start locks)
    more row true there is = sym (after_last row there)
    more row false there is = sym (after_last row there ∙ past_last row.id (not_less row.id last_lock_id is))

    at_last : (o : Option LockRow) → slice_get window 63 ≡ o → left locks (after_row o) ≡ drop 64 (from start locks)
    at_last None there = sym (none_after 63 (from start locks) (last_seen ∙ ap (option_map (lock_seen repo)) there))
    at_last (Some row) there = more row (nat_lt row.id last_lock_id) there refl

    filter_left : (next : Option ℕ) → left (filter test locks) next ≡ filter test (left locks next)
    filter_left None = refl
    filter_left (Some n) = swap_filters (λ l. nat_le n l.id) test locks

    -- the wanted locks of the window, and those after it, are those from its start on
    pub window_left : filter test (map (lock_seen repo) window) ++ left (filter test locks) (next_start window) ≡ left (filter test locks) (Some start)
    window_left =
        ap₂ ◌++◌ (ap (filter test) e) (filter_left (next_start window) ∙ ap (filter test) (at_last (slice_get window 63) refl))
        ∙ sym (filter-append test (take 64 (from start locks)) (drop 64 (from start locks)))
        ∙ ap (filter test) (take-append-drop 64 (from start locks)) ∙ sym (filter_left (Some start))

-- the ids of a world's locks are in range
ids_within : (repo : List ℕ) (world : World) → IsWorld world → AllByRecursion (λ l. l.id ≤ last_lock_id) (locks_of repo world)
ids_within repo world w = each_of (λ l. l.id ≤ last_lock_id) (locks_of repo world) (λ l is.
    let own = (locks_are_those world repo l).0 (into (locks_of repo world) l is) in
    let lock = each_in (IsLock world.made) world.locks l (recursion_from_All (IsLock world.made) world.locks w.locks) (in_from world.locks l own.0) in
    omega (arith, lock.last, w.made l.repo))

pub window_kept : (repo : List ℕ) (world : World) (test : Test) (start : ℕ) (window kept : List LockRow) (next : Option ℕ) → IsWorld world
    → map (lock_seen repo) window ≡ take 64 (from start (locks_of repo world)) → next ≡ next_start window → map (lock_seen repo) kept ≡ filter test (map (lock_seen repo) window)
    → map (lock_seen repo) kept ++ left (filter test (locks_of repo world)) next ≡ left (filter test (locks_of repo world)) (Some start)
window_kept repo world test start window kept next w read after keeps =
    ap₂ (λ xs o. xs ++ left (filter test (locks_of repo world)) o) keeps after
    ∙ window_left repo (locks_of repo world) (locks_rise world repo w) (ids_within repo world w) test start window read

-- ---- the page

take_longer : {A : Type 0} (n : ℕ) (xs ys : List A) → n < length xs → (take n (xs ++ ys) ≡ take n xs) × (first (drop n (xs ++ ys)) ≡ first (drop n xs))
take_longer n [] ys h = absurd (omega (arith, h))
take_longer zero (x ∷ xs) ys h = (refl, refl)
take_longer (suc n) (x ∷ xs) ys h = let rest = take_longer n xs ys (omega (arith, h)) in (ap (λ l. x ∷ l) rest.0, rest.1)

-- if there are more locks than a page has, those after them do not change the page
cut_more : (limit : ℕ) (xs ys : List Lock) → limit < length xs → cut limit (xs ++ ys) ≡ cut limit xs
cut_more limit xs ys h = let e = take_longer limit xs ys h in rw (e.0, e.1) refl

map_append : {A B : Type 0} (f : A → B) (xs ys : List A) → map f (xs ++ ys) ≡ map f xs ++ map f ys
map_append f [] ys = refl
map_append f (x ∷ xs) ys = ap (λ l. f x ∷ l) (map_append f xs ys)

length_map : {A B : Type 0} (f : A → B) (xs : List A) → length (map f xs) ≡ length xs
length_map f [] = refl
length_map f (x ∷ xs) = ap suc (length_map f xs)

-- the locks that are found, and those that are left, have the page of the wanted locks
abbrev pub HasPage : List ℕ → ℕ → List LockRow → List Lock → Option ℕ → ℕ → Type 0
HasPage repo limit found wanted next cursor =
    cut limit (map (lock_seen repo) found ++ left wanted next) ≡ cut limit (left wanted (Some cursor))

joined_on : (repo : List ℕ) (limit : ℕ) (found kept : List LockRow) (wanted : List Lock) (start : ℕ) (next : Option ℕ) (cursor : ℕ) → HasPage repo limit found wanted (Some start) cursor
    → map (lock_seen repo) kept ++ left wanted next ≡ left wanted (Some start) → HasPage repo limit (found ++ kept) wanted next cursor
joined_on repo limit found kept wanted start next cursor before e =
    ap (cut limit) (ap (λ xs. xs ++ left wanted next) (map_append (lock_seen repo) found kept)
    ∙ append_assoc (map (lock_seen repo) found) (map (lock_seen repo) kept) (left wanted next)
    ∙ ap (λ xs. map (lock_seen repo) found ++ xs) e)
    ∙ before

-- no more locks are needed if more are found than a page has
full_or_more : (repo : List ℕ) (limit : ℕ) (found : List LockRow) (wanted : List Lock) (next : Option ℕ) (cursor : ℕ) → HasPage repo limit found wanted next cursor
    → HasPage repo limit found wanted (unless_full limit found next) cursor
full_or_more repo limit found wanted next cursor before = at (nat_lt limit (length found)) refl
  where
    at : (v : Bool) → nat_lt limit (length found) ≡ v → HasPage repo limit found wanted (cond v None next) cursor
    at true e =
        let longer : limit < length (map (lock_seen repo) found) = let l = length_map (lock_seen repo) found in let h = less limit (length found) e in omega (arith, l, h) in
        cut_more limit (map (lock_seen repo) found) [] longer ∙ sym (cut_more limit (map (lock_seen repo) found) (left wanted next) longer) ∙ before
    at false e = before

-- one more window is joined to the locks that are found
pub one_window_more : (repo : List ℕ) (limit : ℕ) (found kept new rows : List LockRow) (wanted : List Lock) (before next after : Option ℕ) (start cursor : ℕ)
    → before ≡ Some start → HasPage repo limit found wanted before cursor → map (lock_seen repo) kept ++ left wanted next ≡ left wanted (Some start)
    → new ≡ found ++ kept → rows ≡ new → after ≡ unless_full limit rows next → HasPage repo limit new wanted after cursor
one_window_more repo limit found kept new rows wanted before next after start cursor is so_far e more same then =
    rw (then, same, more) (full_or_more repo limit (found ++ kept) wanted next cursor
    (joined_on repo limit found kept wanted start next cursor (subst (λ (o : Option ℕ). HasPage repo limit found wanted o cursor) is so_far) e))

map_take : {A B : Type 0} (f : A → B) (n : ℕ) (xs : List A) → map f (take n xs) ≡ take n (map f xs)
map_take f zero xs = refl
map_take f (suc n) [] = refl
map_take f (suc n) (x ∷ xs) = ap (λ l. f x ∷ l) (map_take f n xs)

-- the page of some rows is the page of the locks that they show
pub cut_seen : (repo : List ℕ) (limit : ℕ) (rows : List LockRow)
    → record { locks = map (lock_seen repo) (take limit rows); next = option_map (λ (row : LockRow). row.id) (slice_get rows limit) } ≡ cut limit (map (lock_seen repo) rows)
cut_seen repo limit rows = rw (map_take (lock_seen repo) limit rows, get_first limit (map (lock_seen repo) rows), get_map (lock_seen repo) rows limit) (ap (λ o. record { locks = take limit (map (lock_seen repo) rows); next = o }) (ids (slice_get rows limit)))
  where
    ids : (o : Option LockRow) → option_map (λ (row : LockRow). row.id) o ≡ option_map (λ (l : Lock). l.id) (option_map (lock_seen repo) o)
    ids None = refl
    ids (Some row) = refl
