-- The world that a store holds after a call.
use Rattle.refinement.proofs.Prelude.{◌≡◌, ℕ, pos, ◌+◌, sym, subst, ap, ◌∙◌, refl, Ghosts, World, Lock, with_lock, Tables, shown, Moves, outcome_of, created, held, used_up, Outcome, after_outcome, with_new_lock, LockFields, moves_still, Represents, Holds, lock_kept, lock_row}
use Rattle.model.proofs.Keeping.{IsNewLock, keeps_with_lock}
use Rattle.tables.specs.Rows as row
use Rattle.tables.specs.Steps.{after_create}
use Rattle.refinement.proofs.Changes.{new_lock_represented}

module _ {S : Type 0} (g : Ghosts S) (old new : S) where
  -- a call that leaves the tables unchanged leaves the world unchanged
  pub holds_still : (world : World) → Moves g (λ t. t) old new → Holds g old world → Holds g new world
  holds_still world moves h = record {
    ready = moves.ready h.ready;
    laws = h.laws;
    shows = λ honest open_now. subst (λ (t : Tables). Represents t world) (sym (moves.shows honest h.ready open_now))
        (h.shows (moves.was_honest honest) (moves.was_open honest open_now));
  }

  unchanged : (asked : row.Lock) (t : Tables) (o : Outcome) → o ≡ outcome_of asked t → after_outcome asked o t ≡ t → after_create asked t ≡ t
  unfolding after_create
  unchanged asked t o e same = ap (λ p. after_outcome asked p t) (sym e) ∙ same

  -- a lock request on a locked path leaves the tables as they were
  pub still_if_held : (asked : row.Lock) (f : LockFields) → Moves g (after_create asked) old new → held f ≡ outcome_of asked (shown g old) → Moves g (λ t. t) old new
  still_if_held asked f moves e = moves_still g old new (after_create asked) moves (λ _. unchanged asked (shown g old) (held f) e refl)

  -- as does one for which no id is left
  pub still_if_used : (asked : row.Lock) → Moves g (after_create asked) old new → used_up ≡ outcome_of asked (shown g old) → Moves g (λ t. t) old new
  still_if_used asked moves e = moves_still g old new (after_create asked) moves (λ _. unchanged asked (shown g old) used_up e refl)

  as_created : (asked : row.Lock) (t : Tables) (n : ℕ) → created (pos n) ≡ outcome_of asked t → after_create asked t ≡ with_new_lock asked (pos n) t
  unfolding after_create
  as_created asked t n e = ap (λ p. after_outcome asked p t) (sym e)

  -- the world has the lock that was made
  pub holds_created : (world : World) (asked : row.Lock) (n : ℕ) (l : Lock) → Moves g (after_create asked) old new
      → created (pos n) ≡ outcome_of asked (shown g old) → lock_kept (record asked { id = pos n }) ≡ lock_row l → asked.repo ≡ l.repo
      → n ≡ world.made l.repo + 1 → IsNewLock world l → Holds g old world → Holds g new (with_lock l world)
  holds_created world asked n l moves e row repo next is h = record {
    ready = moves.ready h.ready;
    laws = keeps_with_lock world l is h.laws;
    shows = λ honest open_now. subst (λ (t : Tables). Represents t (with_lock l world))
        (sym (moves.shows honest h.ready open_now ∙ as_created asked (shown g old) n e))
        (new_lock_represented (shown g old) world asked (pos n) l (h.shows (moves.was_honest honest) (moves.was_open honest open_now)) row repo (ap pos next));
  }
