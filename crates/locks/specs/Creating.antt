-- Locks that are made.
use Rattle.std.specs.Prelude.{◌≡◌, ◌+◌, ℕ, List, [], Result, Ok, Err}
use Rattle.store.specs.declared.state.State.{Ghosts}
use Rattle.names.specs.Names.{repo_text, ref_text, path_text, user_text}
use Rattle.names.specs.declared.rules.Rule.TheVariants.{L5}
use Rattle.model.specs.World.{World, Lock}
use Rattle.model.specs.RepoState.{RepoState, repo_state}
use Rattle.model.specs.Answers.{Answer, makes_lock, by_lock, by_rule, store_refusal}
use Rattle.model.specs.Locks.{place_verdict}
use Rattle.tables.specs.declared.new_rows.NewLock.{NewLock}
use Rattle.tables.specs.declared.rows.LockRow.{LockRow}
use Rattle.refinement.specs.Left.{Gives, KeepsTables}
use Rattle.locks.specs.Finding.{lock_seen}
use Rattle.locks.specs.declared.creating.LockFault.{LockFault}
use Rattle.locks.specs.declared.creating.LockFault.TheVariants as fault

-- the state of the repository of this name; its locks do not depend on its quota or default ref
abbrev pub state_of : List ℕ → World → RepoState
state_of name world = repo_state (record { name = name; default_ref = []; quota = 0 }) world

-- the lock that the world gets for this attempt
abbrev pub lock_wanted : World → NewLock → Lock
lock_wanted world w = record {
  repo = repo_text w.repo.now;
  id = world.made (repo_text w.repo.now) + 1;
  ref = ref_text w.ref_name.now;
  path = path_text w.path.now;
  owner = user_text w.owner.now;
  at = w.moment;
}

-- the verdict on the place of the attempt
abbrev pub placed_verdict : World → NewLock → Answer
placed_verdict world w = place_verdict (state_of (repo_text w.repo.now) world) (lock_wanted world w)

module _ {S : Type 0} (g : Ghosts S) where
  -- the verdict on the place is this one, and it was carried out
  abbrev pub Carries : World → NewLock → S → S → Answer → Type 0
  Carries world w old new given = (placed_verdict world w ≡ given) × Gives g old new world given given

  -- the verdict on the place was carried out: the lock was made as it was wanted, or the place denies it; or the store
  -- refused. If no lock was made, the tables are as before
  abbrev pub Creates : World → NewLock → S → S → Result LockRow LockFault → Type 0
  Creates world w old new (Ok row) =
      Carries world w old new (Ok (makes_lock (lock_wanted world w))) × (lock_seen (repo_text w.repo.now) row ≡ lock_wanted world w)
  Creates world w old new (Err (fault.Held row)) =
      Carries world w old new (Err (by_lock (lock_seen (repo_text w.repo.now) row))) × KeepsTables g old new
  Creates world w old new (Err fault.UsedUp) = Carries world w old new (Err (by_rule L5)) × KeepsTables g old new
  Creates world w old new (Err (fault.Store f)) = Gives g old new world (placed_verdict world w) store_refusal × KeepsTables g old new
