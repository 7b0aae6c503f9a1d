-- Walks over the pages of a repository, while its locks and what is wanted of them may change.
use Rattle.std.specs.Prelude.{◌≡◌, ◌≢◌, ◌≤◌, ℕ, List, [], ◌∷◌, filter, flat_map, None, All, AllPairs, Contains, MatchOption}
use Rattle.model.specs.World.{World, IsWorld, Lock}
use Rattle.model.specs.RepoState.{locks_of}
use Rattle.model.specs.Answers.{Page}
use Rattle.model.specs.Pages.{page_of, IsBelow}
use Rattle.cursor.specs.Wanted.{Test}

-- a request of a walk: the world at that moment, which locks are wanted, the limit, and the page
pub record Visit : Type 0 where
  pub world : World
  pub wanted : Test
  pub limit : ℕ
  pub page : Page

-- the locks that were wanted
abbrev pub locks_at : List ℕ → Visit → List Lock
locks_at repo visit = filter visit.wanted (locks_of repo visit.world)

-- the page is the one from this id on
pub record IsVisit (repo : List ℕ) (cursor : ℕ) (visit : Visit) : Type 0 where
  pub laws : IsWorld visit.world
  pub page : visit.page ≡ page_of cursor visit.limit (locks_at repo visit)

-- each page begins at the next of the page before, and the last has none
abbrev pub IsWalk : List ℕ → ℕ → List Visit → Type 0
IsWalk repo cursor [] = ⊥
IsWalk repo cursor (visit ∷ []) = IsVisit repo cursor visit × (visit.page.next ≡ None)
IsWalk repo cursor (visit ∷ more ∷ visits) =
    IsVisit repo cursor visit × MatchOption visit.page.next ⊥ (λ n. IsWalk repo n (more ∷ visits))

-- the locks of all the pages, joined
abbrev pub joined : List Visit → List Lock
joined visits = flat_map (λ visit. visit.page.locks) visits

-- the joined pages of a walk rise
abbrev pub WalksRise : Type 0
WalksRise =
    (repo : List ℕ) (cursor : ℕ) (visits : List Visit) → IsWalk repo cursor visits
    → AllPairs IsBelow (joined visits)

-- two locks have two ids
abbrev pub HasOtherId : Lock → Lock → Type 0
HasOtherId a b = a.id ≢ b.id

-- they have no lock twice
abbrev pub WalksHoldOnce : Type 0
WalksHoldOnce =
    (repo : List ℕ) (cursor : ℕ) (visits : List Visit) → IsWalk repo cursor visits
    → AllPairs HasOtherId (joined visits)

-- they have each lock from the cursor on that was wanted, and existed, at every page
abbrev pub WalksMissNone : Type 0
WalksMissNone =
    (repo : List ℕ) (cursor : ℕ) (visits : List Visit) (l : Lock)
    → IsWalk repo cursor visits → cursor ≤ l.id
    → All (λ visit. Contains (locks_at repo visit) l) visits → Contains (joined visits) l
