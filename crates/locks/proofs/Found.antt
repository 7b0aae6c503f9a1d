-- The rows that are found are locks of the world.
use Rattle.locks.proofs.Prelude.{◌≡◌, ◌∙◌, ℕ, pos, List, Option, Some, None, option_map, IfSome, find, map, filter, take, zero, suc, nat_le, [], ◌∷◌, refl, sym, ap, ap₂, World, IsWorld, Lock, Tables, is_at, has_id, LockFields, lock_fields, read_lock, IsLockOf, LockRow, Represents, lock_kept, lock_row, locks_of, is_in, is_from, by_id, AreLocksOf, lock_found, number_found, found_own, lock_seen, lock_on, lock_with}
use Rattle.tables.specs.Rows as row
use Rattle.std.specs.List.{AllByRecursion}
use Rattle.model.proofs.Lists.{each_of, each_filter, into}
use Rattle.model.proofs.Ordered.{locks_are_those}
use Rattle.refinement.proofs.Rising.{all_rows, rows_from}

pub same_number : (a b : ℕ) → pos a ≡ pos b → a ≡ b
same_number a b e = cc

-- a row with the fields of a lock of the repository is that lock
pub seen_is : (repo : List ℕ) (r : LockRow) (l : Lock) → read_lock r ≡ lock_fields (lock_row l) → l.repo ≡ repo → lock_seen repo r ≡ l
seen_is repo r l e own =
    let id : r.id ≡ l.id = same_number r.id l.id (ap (λ (f : LockFields). f.id) e) in
    let at : r.moment ≡ l.at = same_number r.moment l.at (ap (λ (f : LockFields). f.moment) e) in
    rw (id, at, ap (λ (f : LockFields). f.ref_name) e, ap (λ (f : LockFields). f.path) e, ap (λ (f : LockFields). f.owner) e, sym own) refl

one_seen : (repo : List ℕ) (found : Option LockRow) (o : Option row.Lock) (l : Option Lock) → IsLockOf found o
    → option_map lock_kept o ≡ option_map lock_row l → IfSome l (λ k. k.repo ≡ repo) → option_map (lock_seen repo) found ≡ l
one_seen repo None None None e k own = refl
one_seen repo None None (Some l) e k own = absurd (cc)
one_seen repo None (Some r) l e k own = absurd (cc)
one_seen repo (Some f) None l e k own = absurd (cc)
one_seen repo (Some f) (Some r) None e k own = absurd (cc)
one_seen repo (Some f) (Some r) (Some l) e k own =
    let a : read_lock f ≡ lock_fields r = cc in
    let b : lock_kept r ≡ lock_row l = cc in
    ap Some (seen_is repo f l (a ∙ ap lock_fields b) own)

pub at_seen : (t : Tables) (world : World) (repo ref path : List ℕ) (found : Option LockRow) → Represents t world → IsWorld world
    → IsLockOf found (find (is_at repo ref path) t.locks) → option_map (lock_seen repo) found ≡ lock_on repo ref path world
at_seen t world repo ref path found s w e =
    one_seen repo found (find (is_at repo ref path) t.locks) (lock_on repo ref path world) e (lock_found t world repo ref path s w) (found_own world repo _)

pub id_seen : (t : Tables) (world : World) (repo : List ℕ) (id : ℕ) (found : Option LockRow) → Represents t world → IsWorld world
    → IsLockOf found (find (has_id repo (pos id)) t.locks) → option_map (lock_seen repo) found ≡ lock_with repo id world
id_seen t world repo id found s w e =
    one_seen repo found (find (has_id repo (pos id)) t.locks) (lock_with repo id world) e (number_found t world repo id s w) (found_own world repo _)

-- ---- in order

all_seen : (repo : List ℕ) (found : List LockRow) (ls : List Lock) → map read_lock found ≡ map lock_fields (map lock_row ls) → AllByRecursion (λ l. l.repo ≡ repo) ls → map (lock_seen repo) found ≡ ls
all_seen repo [] [] e own = refl
all_seen repo [] (l ∷ ls) e own = absurd (cc)
all_seen repo (f ∷ fs) [] e own = absurd (cc)
all_seen repo (f ∷ fs) (l ∷ ls) e own =
    let head : read_lock f ≡ lock_fields (lock_row l) = cc in
    let tail : map read_lock fs ≡ map lock_fields (map lock_row ls) = cc in
    ap₂ ◌∷◌ (seen_is repo f l head own.0) (all_seen repo fs ls tail own.1)

-- the fields of a row do not depend on its place
placeless : (rs : List row.Lock) → map lock_fields (map lock_kept rs) ≡ map lock_fields rs
placeless [] = refl
placeless (r ∷ rs) = ap (λ l. lock_fields r ∷ l) (placeless rs)

all_own : (world : World) (repo : List ℕ) → AllByRecursion (λ l. l.repo ≡ repo) (locks_of repo world)
all_own world repo = each_of (λ l. l.repo ≡ repo) (locks_of repo world) (λ l is. ((locks_are_those world repo l).0 (into (locks_of repo world) l is)).1)

pub locks_seen : (t : Tables) (world : World) (repo : List ℕ) (found : List LockRow) → Represents t world → IsWorld world
    → AreLocksOf found (by_id (filter (is_in repo) t.locks)) → map (lock_seen repo) found ≡ locks_of repo world
locks_seen t world repo found s w e =
    all_seen repo found (locks_of repo world) (e ∙ sym (placeless (by_id (filter (is_in repo) t.locks))) ∙ ap (map lock_fields) (all_rows t world repo s w)) (all_own world repo)

map_take : {A B : Type 0} (f : A → B) (n : ℕ) (xs : List A) → map f (take n xs) ≡ take n (map f xs)
map_take f zero xs = refl
map_take f (suc n) [] = refl
map_take f (suc n) (x ∷ xs) = ap (λ l. f x ∷ l) (map_take f n xs)

each_take : (P : Lock → Type 0) (n : ℕ) (xs : List Lock) → AllByRecursion P xs → AllByRecursion P (take n xs)
each_take P zero xs all = tt
each_take P (suc n) [] all = tt
each_take P (suc n) (x ∷ xs) all = (all.0, each_take P n xs all.1)

pub window_seen : (t : Tables) (world : World) (repo : List ℕ) (id : ℕ) (found : List LockRow) → Represents t world → IsWorld world
    → AreLocksOf found (take 64 (by_id (filter (is_from repo (pos id)) t.locks))) → map (lock_seen repo) found ≡ take 64 (filter (λ l. nat_le id l.id) (locks_of repo world))
window_seen t world repo id found s w e =
    let rows = by_id (filter (is_from repo (pos id)) t.locks) in
    let late = filter (λ (l : Lock). nat_le id l.id) (locks_of repo world) in
    let same : map lock_fields rows ≡ map lock_fields (map lock_row late) = sym (placeless rows) ∙ ap (map lock_fields) (rows_from t world repo id s w) in
    all_seen repo found (take 64 late)
    (e ∙ map_take lock_fields 64 rows ∙ ap (take 64) same ∙ sym (map_take lock_fields 64 (map lock_row late)) ∙ ap (map lock_fields) (sym (map_take lock_row 64 late)))
    (each_take (λ l. l.repo ≡ repo) 64 late (each_filter (λ l. l.repo ≡ repo) (λ l. nat_le id l.id) (locks_of repo world) (all_own world repo)))
