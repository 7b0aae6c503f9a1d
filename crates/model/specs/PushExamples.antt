-- Worked examples of push checks.
use Rattle.std.specs.Prelude.{◌≡◌, ℕ, List, [], ◌∷◌, codes}
use Rattle.model.specs.declared.Effect.TheVariants as effect
use Rattle.model.specs.declared.Right.TheVariants as right
use Rattle.model.specs.Policy.{Policy}
use Rattle.model.specs.World.{nothing, with_lock}
use Rattle.model.specs.PushChecks.{Push, PushVerdict, free, denied_by, locked_by, push_verdicts}
use Rattle.model.specs.Studio.{film, main_branch, all, row_for, studio_of, members_row, studio, first_lock}

-- a push of the user to the default ref
abbrev pub push_of : List ℕ → Push
push_of user = record { user = user; repo = film; ref = main_branch }

-- nobody may push below art/
unfoldable pub art_is_closed : Policy
art_is_closed = studio_of 1000000 (row_for effect.Deny all (codes "art/" ∷ []) (right.Push ∷ []) ∷ members_row ∷ [])

-- three paths, of which ann has locked the second
abbrev pub three_paths : List (List ℕ)
three_paths = codes "a.txt" ∷ codes "art/hero.psd" ∷ codes "z/z" ∷ []

-- the verdicts on them under this policy, once ann has made the first lock
abbrev pub verdicts_for : Policy → Push → List PushVerdict
verdicts_for policy push = push_verdicts policy (with_lock first_lock nothing) push three_paths

-- ann's lock is in bob's way, and not in ann's; on another ref it is in nobody's way
abbrev pub LockBlocksOthers : Type 0
LockBlocksOthers =
    (verdicts_for studio (push_of (codes "bob")) ≡ free ∷ locked_by (codes "ann") 1 ∷ free ∷ [])
    × (verdicts_for studio (push_of (codes "ann")) ≡ free ∷ free ∷ free ∷ [])
    × (verdicts_for studio (record (push_of (codes "bob")) { ref = codes "refs/heads/dev" }) ≡ free ∷ free ∷ free ∷ [])

-- a denial comes before a lock; if no row matches, it is by row 0
abbrev pub DenialComesFirst : Type 0
DenialComesFirst =
    (verdicts_for art_is_closed (push_of (codes "bob")) ≡ free ∷ denied_by 1 ∷ free ∷ [])
    × (push_verdicts art_is_closed nothing (push_of (codes "bob")) three_paths ≡ free ∷ denied_by 1 ∷ free ∷ [])
    × (verdicts_for studio (push_of (codes "zoe")) ≡ denied_by 0 ∷ denied_by 0 ∷ denied_by 0 ∷ [])
