-- Which worlds a stop may leave.
use Rattle.std.specs.Prelude.{◌≡◌, ◌⊎◌, ℕ, Bool, true, false, nat_lt, List, [], ◌∷◌, map, Option, Some, None, is_none, Ok, Err, IsPermutation, if◌then◌else◌}
use Rattle.sha2.specs.Sha256.{sha256}
use Rattle.names.specs.declared.operations.Operation.{Operation}
use Rattle.model.specs.World.{World, Token, object_named}
use Rattle.model.specs.Answers.{Answer, Grant, stores, makes_lock, releases, is_store_refusal}
use Rattle.model.specs.Operator.{issue_outcome, prune_outcome, retire_outcome, removed_now}
use Rattle.model.specs.Steps.{Event, exchanged, issues, prunes, retires, judgement, after}

-- ---- worlds that count as one

-- a token that was issued, by the digest of its text
pub record TokenDigest : Type 0 where
  pub digest : List ℕ
  pub user : List ℕ
  pub repo : List ℕ
  pub operation : Operation
  pub expires : ℕ

-- a token without its text
abbrev pub token_digest : Token → TokenDigest
token_digest t =
    record { digest = sha256 t.text; user = t.user; repo = t.repo; operation = t.operation; expires = t.expires }

-- the same sets and the same counts; token texts with one digest count as one
pub record SameWorld (a b : World) : Type 0 where
  pub objects : IsPermutation a.objects b.objects
  pub retired : IsPermutation a.retired b.retired
  pub locks : IsPermutation a.locks b.locks
  pub made : (repo : List ℕ) → a.made repo ≡ b.made repo
  pub tokens : IsPermutation (map token_digest a.tokens) (map token_digest b.tokens)

-- ---- bounds

-- the worlds that a stop may leave
abbrev pub Bound : Type 0
Bound = List World

-- the world counts as one of the bound
abbrev pub IsWithin : Bound → World → Type 0
IsWithin [] world = ⊥
IsWithin (one ∷ bound) world = SameWorld one world ⊎ IsWithin bound world

-- how a call ends: it made a change and reported it, it left the world, or the store refused or memory ran out
pub data Ending : Type 0 where
  changed unchanged failed : Ending

-- the call made a change
abbrev pub is_changed : Ending → Bool
is_changed changed = true
is_changed _ = false

-- the worlds that a stop may leave after a call: after a reported change only the new one; after any other call the
-- old one and those of the bound, and after a store refusal also the one that the call was to make
abbrev pub left_by : Ending → (old made : World) → Bound → Bound
left_by changed old made bound = made ∷ []
left_by unchanged old made bound = old ∷ bound
left_by failed old made bound = made ∷ old ∷ bound

-- ---- the bound of a step

-- a grant that changes the world
abbrev pub is_change : World → Grant → Bool
is_change world (stores o) = is_none (object_named o.repo o.name world)
is_change world (makes_lock l) = true
is_change world (releases l) = true
is_change world _ = false

-- how a request ends, by its answer
abbrev pub answer_ending : World → Option Answer → Ending
answer_ending old (Some (Ok grant)) = if is_change old grant then changed else unchanged
answer_ending old (Some (Err denial)) = if is_store_refusal (Err denial) then failed else unchanged
answer_ending old None = unchanged

-- how an event ends, by what it reports
abbrev pub ending_of : World → Event → Ending
ending_of old (exchanged e) = answer_ending old e.given
ending_of old (issues asked (Some (Ok t))) = changed
ending_of old (issues asked (Some _)) = unchanged
ending_of old (issues asked None) = failed
ending_of old (prunes now (Some n)) = if nat_lt 0 n then changed else unchanged
ending_of old (prunes now None) = failed
ending_of old (retires repo name (Some removed_now)) = changed
ending_of old (retires repo name (Some _)) = unchanged
ending_of old (retires repo name None) = failed

-- the world that an event makes if the store does not refuse
abbrev pub intended_world : World → Event → World
intended_world old (exchanged e) = after old (judgement old e)
intended_world old (issues asked given) = (issue_outcome old asked).world
intended_world old (prunes now given) = (prune_outcome old now).world
intended_world old (retires repo name given) = (retire_outcome old repo name).world

-- the world after an event that ended so
abbrev pub world_by : Ending → (old made : World) → World
world_by changed old made = made
world_by _ old made = old

-- the world after an event, by what it reports
abbrev pub next_world : World → Event → World
next_world old event = world_by (ending_of old event) old (intended_world old event)

-- what an event leaves
abbrev pub bound_after : World → Event → Bound → Bound
bound_after old event bound = left_by (ending_of old event) old (intended_world old event) bound

-- what the events of a run leave
abbrev pub bound_of_run : World → List Event → Bound → Bound
bound_of_run old [] bound = bound
bound_of_run old (event ∷ events) bound = bound_of_run (next_world old event) events (bound_after old event bound)
