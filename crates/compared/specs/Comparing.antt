-- The contracts of comparisons.
use Rattle.std.specs.Prelude.{◌≡◌, ◌<◌, ℕ, Bool, List, [], ◌∷◌, length, slice_index_or, Result, IfOk}
use Rattle.std.specs.Bool.{Decides}
use Rattle.tables.specs.Rows.{Tables}
use Rattle.tables.specs.Runs.{current_meta}
use Rattle.tables.specs.declared.fault.StoreFault.{StoreFault}
use Rattle.store.specs.declared.state.State.{Ghosts}
use Rattle.store.specs.Shown.{IsHonest, IsOpen, HasTables, Moves, AddsNothing, shown}

-- the lists are equally long, and elements with one index are so related
pub record ArePaired {X : Type 0} (R : X → X → Type 0) (xs ys : List X) : Type 0 where
  pub lengths : length xs ≡ length ys
  pub each : (i : ℕ) (d e : X) → i < length xs → R (slice_index_or xs i d) (slice_index_or ys i e)

-- while the store is open, it shows these tables
abbrev pub ShowsIfOpen : {S : Type 0} → Ghosts S → S → Tables → Type 0
ShowsIfOpen g s t = IsOpen g s → shown g s ≡ t

-- while the store is honest and open, its row of `meta` is that of the current version
abbrev pub IsCurrent : {S : Type 0} → Ghosts S → S → Type 0
IsCurrent g s = IsHonest g s → IsOpen g s → (shown g s).meta ≡ current_meta ∷ []

module _ {S T : Type 0} (g : Ghosts S) (h : Ghosts T) where
  -- two stores were only read: they show what they showed, and a stop leaves no more than before
  pub record ReadsBoth (old old_end : S) (new new_end : T) : Type 0 where
    pub old_same : Moves g (λ t. t) old old_end
    pub old_adds : AddsNothing g old old_end
    pub new_same : Moves h (λ t. t) new new_end
    pub new_adds : AddsNothing h new new_end

  -- the whole contract of a comparison: the two stores are only read, and if the result is Ok, they were open, and it says
  -- whether the tables that they showed are so related
  pub record Compares (old old_end : S) (new new_end : T) (result : Result Bool StoreFault) (P : Tables → Tables → Type 0) : Type 0 where
    pub both : ReadsBoth old old_end new new_end
    pub answers : IsHonest g old_end → IsHonest h new_end → HasTables g old → HasTables h new
        → IfOk result (λ same. IsOpen g old × IsOpen h new × Decides same (P (shown g old) (shown h new)))
