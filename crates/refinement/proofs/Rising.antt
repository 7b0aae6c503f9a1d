-- The rows of a repository's locks in the order of their ids, and the locks of the world.
use Rattle.refinement.proofs.Prelude.{◌≡◌, ◌∙◌, ℕ, pos, Bool, true, false, ◌&&◌, nat_le, nat_lt, cond, List, [], ◌∷◌, map, filter, bytes_eq, refl, ap, subst, IsPermutation, arith, Ordering, Less, Equal, Greater, is_gt, int_le, AllByRecursion, int_cmp, ordering_then, IsTotalOrder, nat_tests, int_cmp_total, on_total, then_total, IsPermutation-map, IsPermutation-trans, IsPermutation-sym, IsPermutation-refl, IsPermutation-cons, IsPermutation-middle, is_eq-slice_cmp, IsAscending, IsPermutation-filter, filter-map, ascending-map, ascending_weaker, IsPermutation-sort_by, World, IsWorld, Lock, locks_of, each_filter, Tables, is_in, is_from, id_cmp, by_id, lock_kept, lock_row, Represents}
use Rattle.model.specs.Orders.{insert_by, sort_by}
use Rattle.model.specs.Pages.{IsBelow}
use Rattle.model.proofs.Pages.{Rise, rise_from, locks_rise}
use Rattle.tables.specs.Rows as row
use Rattle.refinement.proofs.Sorting.{less, NotAfter, sorted_rises, one_order}
use Rattle.refinement.proofs.Tokens.{filter_alike}

-- ---- the order of the definitions only moves elements

inserted : {A : Type 0} (before : A → A → Bool) (x : A) (ys : List A) → IsPermutation (insert_by before x ys) (x ∷ ys)
inserted before x [] = IsPermutation-refl _
inserted {A} before x (y ∷ ys) = at (before x y) (inserted before x ys)
  where
    at : (v : Bool) → IsPermutation (insert_by before x ys) (x ∷ ys) → IsPermutation (cond v (x ∷ y ∷ ys) (y ∷ insert_by before x ys)) (x ∷ y ∷ ys)
    at true rest = IsPermutation-refl _
    at false rest = IsPermutation-trans _ _ _ (IsPermutation-cons y _ _ rest) (IsPermutation-middle (y ∷ []) x ys)

was_sorted : {A : Type 0} (before : A → A → Bool) (xs : List A) → IsPermutation (sort_by before xs) xs
was_sorted before [] = IsPermutation-refl _
was_sorted before (x ∷ xs) = IsPermutation-trans _ _ _ (inserted before x (sort_by before xs)) (IsPermutation-cons x _ _ (was_sorted before xs))

-- ---- one order

abbrev row_cmp : row.Lock → row.Lock → Ordering
row_cmp a b = int_cmp a.id b.id

row_total : IsTotalOrder row_cmp
row_total = on_total (λ (l : row.Lock). l.id) int_cmp_total

all_less : (x : Lock) (ls : List Lock) → AllByRecursion (IsBelow x) ls → AllByRecursion (λ r. row_cmp (lock_row x) r ≡ Less) (map lock_row ls)
all_less x [] all = tt
all_less x (y ∷ ys) all = (less x.id y.id all.0, all_less x ys all.1)

strict : (ls : List Lock) → Rise ls → IsAscending (λ a b. row_cmp a b ≡ Less) (map lock_row ls)
strict [] up = tt
strict (x ∷ xs) up = (all_less x xs up.0, strict xs up.1)

id_total : IsTotalOrder id_cmp
id_total = then_total row_total (on_total (λ (l : row.Lock). l.rowid) int_cmp_total)

not_after : (a b : Ordering) → is_gt (ordering_then a b) ≡ false → is_gt a ≡ false
not_after Less b e = refl
not_after Equal b e = refl
not_after Greater b e = e

kept_rises : (ls : List row.Lock) → IsAscending (NotAfter row_cmp row_total) (map lock_kept (by_id ls))
kept_rises ls =
    ascending-map (NotAfter row_cmp row_total) lock_kept (by_id ls)
    (ascending_weaker (NotAfter id_cmp id_total) (NotAfter row_cmp row_total) (λ a b. not_after (row_cmp a b) (int_cmp a.rowid b.rowid)) (by_id ls) (sorted_rises id_cmp id_total ls))

-- ---- the locks of a repository

module _ (P : row.Lock → Bool) (Q : Lock → Bool) (alike : (l : Lock) → P (lock_row l) ≡ Q l) (blind : (r : row.Lock) → P (lock_kept r) ≡ P r) where
  same_rows : (t : Tables) (world : World) → Represents t world → IsPermutation (map lock_row (filter Q world.locks)) (map lock_kept (filter P t.locks))
  same_rows t world s =
      let left : filter P (map lock_row world.locks) ≡ map lock_row (filter Q world.locks) = filter-map P lock_row world.locks ∙ ap (map lock_row) (filter_alike (λ l. P (lock_row l)) Q world.locks alike) in
      let right : filter P (map lock_kept t.locks) ≡ map lock_kept (filter P t.locks) = filter-map P lock_kept t.locks ∙ ap (map lock_kept) (filter_alike (λ r. P (lock_kept r)) P t.locks blind) in
      let rows = IsPermutation-sym (filter P (map lock_kept t.locks)) (filter P (map lock_row world.locks)) (IsPermutation-filter P (map lock_kept t.locks) (map lock_row world.locks) s.locks) in
      subst (λ (xs : List row.Lock). IsPermutation (map lock_row (filter Q world.locks)) xs) right
      (subst (λ (xs : List row.Lock). IsPermutation xs (filter P (map lock_kept t.locks))) left rows)

  -- the rows in rising ids are those of the locks in rising ids
  rows_rise : (t : Tables) (world : World) (locks : List Lock) → Represents t world → Rise locks → IsPermutation locks (filter Q world.locks)
      → map lock_kept (by_id (filter P t.locks)) ≡ map lock_row locks
  rows_rise t world locks s rise same =
      let rows = filter P t.locks in
      let some = filter Q world.locks in
      one_order row_cmp row_total (map lock_row locks) (map lock_kept (by_id rows)) (strict locks rise)
      (IsPermutation-trans (map lock_row locks) (map lock_row some) (map lock_kept (by_id rows)) (IsPermutation-map lock_row locks some same)
      (IsPermutation-trans (map lock_row some) (map lock_kept rows) (map lock_kept (by_id rows)) (same_rows t world s)
      (IsPermutation-map lock_kept rows (by_id rows) (IsPermutation-sym (by_id rows) rows (IsPermutation-sort_by id_cmp id_total rows)))))
      (kept_rises rows)

in_alike : (repo : List ℕ) (l : Lock) → is_in repo (lock_row l) ≡ bytes_eq l.repo repo
in_alike repo l = is_eq-slice_cmp l.repo repo

-- the rows of the repository, in rising ids
pub all_rows : (t : Tables) (world : World) (repo : List ℕ) → Represents t world → IsWorld world
    → map lock_kept (by_id (filter (is_in repo) t.locks)) ≡ map lock_row (locks_of repo world)
all_rows t world repo s w =
    rows_rise (is_in repo) (λ l. bytes_eq l.repo repo) (in_alike repo) (λ r. refl) t world (locks_of repo world) s (rise_from (locks_of repo world) (locks_rise world repo w))
    (was_sorted (λ a b. nat_lt a.id b.id) (filter (λ l. bytes_eq l.repo repo) world.locks))

int_le_pos : (a b : ℕ) → int_le (pos a) (pos b) ≡ nat_le a b
int_le_pos a b = grind (arith, nat_tests)

from_alike : (repo : List ℕ) (id : ℕ) (l : Lock) → is_from repo (pos id) (lock_row l) ≡ (bytes_eq l.repo repo && nat_le id l.id)
from_alike repo id l = rw (is_eq-slice_cmp l.repo repo, int_le_pos id l.id) refl

filter_both : {A : Type 0} (p q : A → Bool) (xs : List A) → filter q (filter p xs) ≡ filter (λ x. p x && q x) xs
filter_both p q [] = refl
filter_both {A} p q (x ∷ xs) = at (p x) (filter_both p q xs)
  where
    at : (v : Bool) → filter q (filter p xs) ≡ filter (λ y. p y && q y) xs
        → filter q (cond v (x ∷ filter p xs) (filter p xs)) ≡ cond (v && q x) (x ∷ filter (λ y. p y && q y) xs) (filter (λ y. p y && q y) xs)
    at true rest = ap (λ ys. cond (q x) (x ∷ ys) ys) rest
    at false rest = rest

rise_filter : (p : Lock → Bool) (xs : List Lock) → Rise xs → Rise (filter p xs)
rise_filter p [] up = tt
rise_filter p (x ∷ xs) up = at (p x) (rise_filter p xs up.1)
  where
    at : (v : Bool) → Rise (filter p xs) → Rise (cond v (x ∷ filter p xs) (filter p xs))
    at true rest = (each_filter (IsBelow x) p xs up.0, rest)
    at false rest = rest

-- the rows of the repository from an id on, in rising ids
pub rows_from : (t : Tables) (world : World) (repo : List ℕ) (id : ℕ) → Represents t world → IsWorld world
    → map lock_kept (by_id (filter (is_from repo (pos id)) t.locks)) ≡ map lock_row (filter (λ l. nat_le id l.id) (locks_of repo world))
rows_from t world repo id s w =
    let own : Lock → Bool = λ l. bytes_eq l.repo repo in
    let late : Lock → Bool = λ l. nat_le id l.id in
    rows_rise (is_from repo (pos id)) (λ l. own l && late l) (from_alike repo id) (λ r. refl) t world (filter late (locks_of repo world)) s
    (rise_filter late (locks_of repo world) (rise_from (locks_of repo world) (locks_rise world repo w)))
    (subst (IsPermutation (filter late (locks_of repo world))) (filter_both own late world.locks)
    (IsPermutation-filter late (locks_of repo world) (filter own world.locks) (was_sorted (λ a b. nat_lt a.id b.id) (filter own world.locks))))
