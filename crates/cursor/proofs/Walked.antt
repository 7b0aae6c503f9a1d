-- A walk over the pages of a repository is whole.
use Rattle.cursor.proofs.Prelude.{◌≡◌, ℕ, List, [], ◌∷◌, ◌++◌, map, Option, Some, None, MatchOption, refl, sym, ap, subst, arith, get_or, AllPairs-filter, recursion_from_All, All-from_recursion, Lock, locks_of, IsBelow, IsPage, Leg, walk_locks, page_is_least, locks_rise, walks_are_whole}
use Rattle.std.specs.List.{All, AllPairs, Contains}
use Rattle.model.specs.Pages as pages
use Rattle.model.specs.Laws.{IsWholeWalk}
use Rattle.model.proofs.Lists.{each_map}
use Rattle.cursor.specs.Walking.{Visit, locks_at, IsVisit, IsWalk, joined, HasOtherId, WalksRise, WalksHoldOnce, WalksMissNone}

-- a visit is one page of a walk
abbrev leg_of : List ℕ → Visit → Leg
leg_of repo visit = record { shown = locks_at repo visit; limit = visit.limit; page = visit.page }

is_page : (repo : List ℕ) (cursor : ℕ) (visit : Visit) → IsVisit repo cursor visit → IsPage (locks_at repo visit) cursor visit.limit visit.page
is_page repo cursor visit is =
    subst (IsPage (locks_at repo visit) cursor visit.limit) (sym is.page)
    (page_is_least cursor visit.limit (locks_at repo visit) (AllPairs-filter IsBelow visit.wanted (locks_of repo visit.world) (locks_rise visit.world repo is.laws)))

is_walk : (repo : List ℕ) (cursor : ℕ) (visits : List Visit) → IsWalk repo cursor visits → pages.IsWalk cursor (map (leg_of repo) visits)
is_walk repo cursor [] w = absurd w
is_walk repo cursor (visit ∷ []) w = (is_page repo cursor visit w.0, w.1)
is_walk repo cursor (visit ∷ more ∷ visits) w = (is_page repo cursor visit w.0, at visit.page.next w.1 (λ n. is_walk repo n (more ∷ visits)))
  where
    at : (o : Option ℕ) → MatchOption o ⊥ (λ n. IsWalk repo n (more ∷ visits)) → ((n : ℕ) → IsWalk repo n (more ∷ visits) → pages.IsWalk n (map (leg_of repo) (more ∷ visits)))
        → MatchOption o ⊥ (λ n. pages.IsWalk n (map (leg_of repo) (more ∷ visits)))
    at None walk rest = absurd walk
    at (Some n) walk rest = rest n walk

same_locks : (repo : List ℕ) (visits : List Visit) → walk_locks (map (leg_of repo) visits) ≡ joined visits
same_locks repo [] = refl
same_locks repo (visit ∷ visits) = ap (λ xs. visit.page.locks ++ xs) (same_locks repo visits)

whole : (repo : List ℕ) (cursor : ℕ) (visits : List Visit) → IsWalk repo cursor visits → IsWholeWalk cursor (map (leg_of repo) visits)
whole repo cursor visits w = walks_are_whole cursor (map (leg_of repo) visits) (is_walk repo cursor visits w)

pub walks_rise : WalksRise
walks_rise repo cursor visits w = subst (AllPairs IsBelow) (same_locks repo visits) (whole repo cursor visits w).rise

other_id : (a b : Lock) → IsBelow a b → HasOtherId a b
other_id a b less same = absurd (omega (arith, less, same))

pub walks_hold_once : WalksHoldOnce
walks_hold_once repo cursor visits w i j d below within =
    other_id (get_or (joined visits) i d) (get_or (joined visits) j d) (walks_rise repo cursor visits w i j d below within)

shown_at : (repo : List ℕ) (l : Lock) (visits : List Visit) → All (λ visit. Contains (locks_at repo visit) l) visits → All (λ leg. Contains leg.shown l) (map (leg_of repo) visits)
shown_at repo l visits all =
    All-from_recursion (λ (leg : Leg). Contains leg.shown l) (map (leg_of repo) visits)
    (each_map (λ (leg : Leg). Contains leg.shown l) (leg_of repo) visits (recursion_from_All (λ visit. Contains (locks_at repo visit) l) visits all))

pub walks_miss_none : WalksMissNone
walks_miss_none repo cursor visits l w above all =
    subst (λ (xs : List Lock). Contains xs l) (same_locks repo visits) ((whole repo cursor visits w).complete l above (shown_at repo l visits all))
