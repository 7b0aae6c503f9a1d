-- What an inspection of objects leaves, and how it shows how far it is.
use Rattle.std.specs.Prelude.{◌≡◌, ◌≤◌, ◌++◌, ℕ, List, take, vec_len, codes, decimal, ⊤}
use Rattle.std.specs.List.{All}
use Rattle.store.specs.declared.state.State.{Ghosts}
use Rattle.store.specs.Shown.{IsHonest, IsOpen, shown}
use Rattle.refinement.specs.Left.{Reads}
use Rattle.operator.specs.Damage.{IsRowSound}
use Rattle.operator.specs.Lines.{count_line}
use Rattle.operator.specs.declared.inspecting.Advance.{Advance}
use Rattle.operator.specs.declared.inspecting.Advance.TheVariants.{Damaged, Done, Unreadable}
use Rattle.operator.specs.declared.inspecting.Inspection.{Inspection}
use Rattle.operator.specs.declared.inspecting.Purpose.{Purpose}
use Rattle.operator.specs.declared.inspecting.Purpose.TheVariants.{Check, Repair}

-- how far an inspection is, for people
abbrev pub progress_text : (count all : ℕ) → List ℕ
progress_text count all = codes "checked " ++ decimal count ++ codes " of " ++ decimal all ++ codes " objects"

-- nothing was changed, and no further object was found damaged
pub record Spares {S : Type 0} (g : Ghosts S) (old new : S) (was is : Inspection) : Type 0 where
  pub reads : Reads g old new (λ _. ⊤)
  pub none : is.damaged ≡ was.damaged

-- the last line of an inspection: how many objects there were when it began, or how many were removed
abbrev pub inspected_line : Purpose → (all damaged : ℕ) → List ℕ
inspected_line Check all damaged = count_line (codes "checked") all (codes "objects")
inspected_line Repair all damaged = count_line (codes "removed") damaged (codes "objects")

-- no object is reported as damaged, and one that is reported as unreadable is counted as such
abbrev pub IsQuiet : Inspection → Advance → Type 0
IsQuiet is (Damaged line) = ⊥
IsQuiet is (Unreadable line) = is.unread ≡ 0 → ⊥
IsQuiet is _ = ⊤

-- an inspection is done only if it has gone over all objects that were stored when it began
abbrev pub IsDoneAtEnd : Inspection → Advance → Type 0
IsDoneAtEnd is Done = vec_len is.rows ≤ is.next
IsDoneAtEnd is _ = ⊤

-- if an inspection has found none damaged and none unreadable, those that it has gone over are sound, whatever the tables
-- hold
abbrev pub IsChecked : {S : Type 0} → Ghosts S → S → Inspection → Type 0
IsChecked g s is =
    IsHonest g s → IsOpen g s → is.damaged ≡ 0 → is.unread ≡ 0 → All (IsRowSound (shown g s)) (take is.next is.rows.items)
