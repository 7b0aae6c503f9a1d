-- A lock that is removed.
use Rattle.refinement.proofs.Prelude.{◌≡◌, ◌∙◌, ℕ, pos, Bool, true, false, not, nat_lt, List, [], ◌∷◌, map, find, filter, cond, length, Option, Some, None, is_some, IfSome, ◌==◌, refl, sym, ap, ap₂, subst, IsPermutation, arith, nat_tests, IsPermutation-filter, filter-map, Ghosts, World, IsWorld, Lock, locks_of, found_passes, Tables, has_id, shown, Moves, moves_still, Represents, Holds, lock_kept, lock_row, lock_with}
use Rattle.model.specs.World as model
use Rattle.model.proofs.Keeping.{keeps_without_lock}
use Rattle.tables.specs.Rows as row
use Rattle.tables.specs.Statements.{without_lock}
use Rattle.refinement.specs.Removal.{without_found}
use Rattle.refinement.proofs.Lookups.{numbered_in, number_found, found_own, row_numbered}
use Rattle.refinement.proofs.Tokens.{filter_alike, none_is, some_alike}

-- the world without the locks of the repository that have the id
abbrev dropped : List ℕ → ℕ → World → World
dropped repo id world = record world { locks = filter (λ k. not (model.has_id repo id k)) world.locks }

keeps_dropped : (repo : List ℕ) (id : ℕ) (world : World) → IsWorld world → IsWorld (dropped repo id world)
keeps_dropped repo id world w = keeps_without_lock (record { repo = repo; id = id; ref = []; path = []; owner = []; at = 0 }) world w

dropped_represented : (t : Tables) (world : World) (repo : List ℕ) (id : ℕ) → Represents t world → Represents (without_lock repo (pos id) t) (dropped repo id world)
unfolding without_lock
dropped_represented t world repo id s =
    let stays : row.Lock → Bool = λ r. not (has_id repo (pos id) r) in
    let P : List row.Lock → Type 0 = λ ks. IsPermutation ks (map lock_row (filter (λ l. not (model.has_id repo id l)) world.locks)) in
    let Q : List row.Lock → Type 0 = λ ks. IsPermutation (filter stays (map lock_kept t.locks)) ks in
    record {
      meta = s.meta;
      locks = subst P (filter-map stays lock_kept t.locks)
          (subst Q (filter-map stays lock_row world.locks ∙ ap (map lock_row) (filter_alike (λ l. stays (lock_row l)) (λ l. not (model.has_id repo id l)) world.locks (λ l. ap not (row_numbered repo id l))))
          (IsPermutation-filter stays (map lock_kept t.locks) (map lock_row world.locks) s.locks));
      made = s.made;
      used = s.used;
      tokens = s.tokens;
      objects = s.objects;
      retired = s.retired;
      unretired = s.unretired;
    }

-- a test that finds nothing keeps everything
all_stay : {A : Type 0} (p : A → Bool) (xs : List A) → find p xs ≡ None → filter (λ x. not (p x)) xs ≡ xs
all_stay p [] none = refl
all_stay {A} p (x ∷ xs) none = at (p x) (all_stay p xs) none
  where
    at : (v : Bool) → (find p xs ≡ None → filter (λ y. not (p y)) xs ≡ xs) → cond v (Some x) (find p xs) ≡ None → cond (not v) (x ∷ filter (λ y. not (p y)) xs) (filter (λ y. not (p y)) xs) ≡ x ∷ xs
    at true rest some = absurd (cc)
    at false rest none = ap (λ ys. x ∷ ys) (rest none)

same_id : (a b : ℕ) → (a == b) ≡ true → a ≡ b
same_id a b h = grind (arith, nat_tests)

dropped_is : (world : World) (repo : List ℕ) (id : ℕ) → IsWorld world → dropped repo id world ≡ without_found (lock_with repo id world) world
dropped_is world repo id w = at (lock_with repo id world) refl
  where
    at : (o : Option Lock) → lock_with repo id world ≡ o → dropped repo id world ≡ without_found o world
    at None e = ap (λ (ls : List Lock). record world { locks = ls }) (all_stay (model.has_id repo id) world.locks (sym (numbered_in world repo id w) ∙ e))
    at (Some l) e =
        let numbered : Lock → Bool = λ k. k.id == id in
        let own = subst (λ (o : Option Lock). IfSome o (λ k. k.repo ≡ repo)) e (found_own world repo numbered) in
        let is = same_id l.id id (found_passes numbered (locks_of repo world) l e) in
        ap₂ (λ r n. dropped r n world) (sym own) (sym is)

-- the world without the lock of an id is a world, and the tables without its row represent it
pub would_remove : (t : Tables) (world : World) (repo : List ℕ) (id : ℕ) → Represents t world → IsWorld world
    → IsWorld (without_found (lock_with repo id world) world) × Represents (without_lock repo (pos id) t) (without_found (lock_with repo id world) world)
would_remove t world repo id s w =
    let is = dropped_is world repo id w in (
      subst IsWorld is (keeps_dropped repo id world w),
      subst (Represents (without_lock repo (pos id) t)) is (dropped_represented t world repo id s),
    )

-- some items pass a test if one is found
some_pass : {A : Type 0} (p : A → Bool) (xs : List A) → nat_lt 0 (length (filter p xs)) ≡ is_some (find p xs)
some_pass p [] = refl
some_pass {A} p (x ∷ xs) = at (p x) (some_pass p xs)
  where
    at : (v : Bool) → nat_lt 0 (length (filter p xs)) ≡ is_some (find p xs) → nat_lt 0 (length (cond v (x ∷ filter p xs) (filter p xs))) ≡ is_some (cond v (Some x) (find p xs))
    at true e = grind (arith, nat_tests)
    at false e = e

-- a row is removed exactly if the world has the lock
pub removed_any : (t : Tables) (world : World) (repo : List ℕ) (id n : ℕ) → Represents t world → IsWorld world → n ≡ length (filter (has_id repo (pos id)) t.locks)
    → nat_lt 0 n ≡ is_some (lock_with repo id world)
removed_any t world repo id n s w e =
    ap (nat_lt 0) e ∙ some_pass (has_id repo (pos id)) t.locks
    ∙ some_alike lock_kept lock_row (find (has_id repo (pos id)) t.locks) (lock_with repo id world) (number_found t world repo id s w)

-- if no row is removed, the tables are as before
pub still_if_none : {S : Type 0} (g : Ghosts S) (old new : S) (repo : List ℕ) (id n : ℕ) → Moves g (without_lock repo (pos id)) old new → n ≡ length (filter (has_id repo (pos id)) (shown g old).locks) → nat_lt 0 n ≡ false
    → Moves g (λ t. t) old new
unfolding without_lock
still_if_none g old new repo id n moves counted none =
    let t = shown g old in
    let free = none_is (find (has_id repo (pos id)) t.locks) (sym (some_pass (has_id repo (pos id)) t.locks) ∙ ap (nat_lt 0) (sym counted) ∙ none) in
    moves_still g old new (without_lock repo (pos id)) moves (λ _. ap (λ (ls : List row.Lock). record t { locks = ls }) (all_stay (has_id repo (pos id)) t.locks free))

-- the lock with the id is removed
pub holds_removed : {S : Type 0} (g : Ghosts S) (old new : S) (world : World) (repo : List ℕ) (id : ℕ) → Moves g (without_lock repo (pos id)) old new → Holds g old world
    → Holds g new (without_found (lock_with repo id world) world)
holds_removed g old new world repo id moves h = record {
  ready = moves.ready h.ready;
  laws = subst IsWorld (dropped_is world repo id h.laws) (keeps_dropped repo id world h.laws);
  shows = λ honest open_now. subst (λ (t : Tables). Represents t (without_found (lock_with repo id world) world)) (sym (moves.shows honest h.ready open_now))
      (would_remove (shown g old) world repo id (h.shows (moves.was_honest honest) (moves.was_open honest open_now)) h.laws).1;
}
