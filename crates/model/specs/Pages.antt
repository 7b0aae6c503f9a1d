-- Pages of locks, and walks over them.
use Rattle.std.specs.Prelude.{◌≡◌, ℕ, ◌<◌, ◌≤◌, ◌⊎◌, nat_le, min, max, List, [], ◌∷◌, length, take, drop, filter, flat_map, option_map, Option, Some, None, Result, Ok, All, AllPairs, Contains, MatchOption, ℤ, pos, negsuc}
use Rattle.names.specs.Texts.{lock_id_in}
use Rattle.names.specs.declared.rules.Rule.{Rule}
use Rattle.names.specs.declared.rules.Rule.TheVariants.{L4}
use Rattle.model.specs.Reading.{ok_or}
use Rattle.model.specs.Orders.{first}
use Rattle.model.specs.World.{Lock}
use Rattle.model.specs.Answers.{Page}

-- the most locks of a page
abbrev pub longest_page : ℕ
longest_page = 500

-- the number of locks of a page for which no limit is given
abbrev pub usual_page : ℕ
usual_page = 100

-- how many locks a page may have: the limit that is given, from 1 to the longest page
abbrev pub page_limit : Option ℤ → ℕ
page_limit None = usual_page
page_limit (Some (pos n)) = max 1 (min n longest_page)
page_limit (Some (negsuc n)) = 1

-- the id to begin at, whether a lock has it or not
abbrev pub cursor_in : Option (List ℕ) → Result ℕ Rule
cursor_in None = Ok 1
cursor_in (Some text) = ok_or (lock_id_in text) L4

-- of locks in rising order, the first ones from the cursor on, and the id of the lock after them
abbrev pub page_of : ℕ → ℕ → List Lock → Page
page_of cursor limit locks =
    let rest = filter (λ l. nat_le cursor l.id) locks in
    record { locks = take limit rest; next = option_map (λ l. l.id) (first (drop limit rest)) }

-- ---- the same in words, for locks in any order

-- the one id is less than the other
abbrev pub IsBelow : Lock → Lock → Type 0
IsBelow a b = a.id < b.id

-- the page is full, and all its locks are below this id
pub record IsFullBelow (limit id : ℕ) (p : Page) : Type 0 where
  pub full : length p.locks ≡ limit
  pub below : All (λ l. l.id < id) p.locks

-- the page holds all the locks from the cursor on
abbrev pub HoldsAllFrom : List Lock → ℕ → Page → Type 0
HoldsAllFrom shown cursor p = (l : Lock) → Contains shown l → cursor ≤ l.id → Contains p.locks l

-- n is the least id, from the cursor on, of a lock that is not in the page; all locks of the page are below it
pub record IsNext (shown : List Lock) (cursor : ℕ) (p : Page) (n : ℕ) : Type 0 where
  pub above : All (λ l. l.id < n) p.locks
  pub from : cursor ≤ n
  pub some : (l : Lock) × Contains shown l × (l.id ≡ n)
  pub least : (l : Lock) → Contains shown l → cursor ≤ l.id → Contains p.locks l ⊎ (n ≤ l.id)

-- the page has the locks of least id from the cursor on, at most as many as the limit; next is the least id after them
pub record IsPage (shown : List Lock) (cursor limit : ℕ) (p : Page) : Type 0 where
  pub rise : AllPairs IsBelow p.locks
  pub within : length p.locks ≤ limit
  pub from : All (λ l. cursor ≤ l.id) p.locks
  pub among : All (Contains shown) p.locks
  pub least : (l : Lock) → Contains shown l → cursor ≤ l.id → Contains p.locks l ⊎ IsFullBelow limit l.id p
  pub next : MatchOption p.next (HoldsAllFrom shown cursor p) (IsNext shown cursor p)

-- ---- walks

-- one page of a walk: the locks that were shown at that moment, the limit, and the page
pub record Leg : Type 0 where
  pub shown : List Lock
  pub limit : ℕ
  pub page : Page

-- each page begins at the next of the page before, and the last has none; the locks may change between them
abbrev pub IsWalk : ℕ → List Leg → Type 0
IsWalk cursor [] = ⊥
IsWalk cursor (leg ∷ []) = IsPage leg.shown cursor leg.limit leg.page × (leg.page.next ≡ None)
IsWalk cursor (leg ∷ more ∷ legs) =
    IsPage leg.shown cursor leg.limit leg.page × MatchOption leg.page.next ⊥ (λ n. IsWalk n (more ∷ legs))

-- the locks of all the pages, joined
abbrev pub walk_locks : List Leg → List Lock
walk_locks legs = flat_map (λ leg. leg.page.locks) legs
