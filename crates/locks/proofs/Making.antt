-- From the result of making a lock in the tables to the verdict on its place.
use Rattle.locks.proofs.Prelude.{◌≡◌, ◌∙◌, ◌<◌, ◌+◌, ℕ, pos, true, false, nat_lt, Some, None, Option, Result, Ok, Err, IfSome, refl, sym, ap, subst, arith, Ghosts, repo_text, ref_text, path_text, user_text, World, IsWorld, Lock, with_lock, changed, unchanged, failed, Tables, IsHonest, IsOpen, shown, Moves, Makes, Fails, asked_lock, Outcome, held, used_up, created, outcome_of, read_lock, after_outcome, with_new_lock, StoreFault, LockRow, Holds, Represents, lock_kept, found_own, ends_made, ends_failed, ends_still, leads_none, lock_on}
use Rattle.std.specs.Prelude.{IsErrAnd}
use Rattle.std.proofs.lemmas.Bool.Decides.{nat_tests}
use Rattle.names.specs.Texts.{last_lock_id}
use Rattle.names.specs.declared.rules.Rule.TheVariants.{L5}
use Rattle.model.specs.Answers.{Answer, makes_lock, by_lock, by_rule}
use Rattle.model.specs.Steps.{after}
use Rattle.model.proofs.Keeping.{IsNewLock, counted_itself, keeps_with_lock}
use Rattle.tables.specs.Rows as row
use Rattle.tables.specs.Steps.{after_create}
use Rattle.tables.specs.declared.new_rows.NewLock.{NewLock}
use Rattle.store.proofs.Moved.{moves_none}
use Rattle.refinement.specs.Left.{Ends, From}
use Rattle.refinement.proofs.Changes.{new_lock_represented}
use Rattle.refinement.proofs.Outcomes.{outcome_number, outcome_created, outcome_held, outcome_used}
use Rattle.refinement.proofs.Holding.{holds_created, holds_still, still_if_held, still_if_used}
use Rattle.locks.specs.Creating.{lock_wanted, placed_verdict, Creates}
use Rattle.locks.specs.declared.creating.LockFault.{LockFault}
use Rattle.locks.specs.declared.creating.LockFault.TheVariants as fault
use Rattle.locks.proofs.Found.{seen_is}

less : (a b : ℕ) → a < b → nat_lt a b ≡ true
less a b h = grind (arith, nat_tests)

module _ (world : World) (w : NewLock) where
  -- the lock on the path of the attempt
  abbrev there : Option Lock
  there = lock_on (repo_text w.repo.now) (ref_text w.ref_name.now) (path_text w.path.now) world

  granted : there ≡ None → nat_lt (world.made (repo_text w.repo.now)) last_lock_id ≡ true → placed_verdict world w ≡ Ok (makes_lock (lock_wanted world w))
  granted free left = rw (free, left) refl

  path_held : (k : Lock) → there ≡ Some k → placed_verdict world w ≡ Err (by_lock k)
  path_held k is = rw is refl

  no_id : there ≡ None → nat_lt (world.made (repo_text w.repo.now)) last_lock_id ≡ false → placed_verdict world w ≡ Err (by_rule L5)
  no_id free left = rw (free, left) refl

  is_new : there ≡ None → world.made (repo_text w.repo.now) < last_lock_id → IsNewLock world (lock_wanted world w)
  is_new free room = record {
    is = record {
      repo = w.repo.now.in_range;
      ref = w.ref_name.now.in_range;
      path = w.path.now.in_range;
      owner = w.owner.now.in_range;
      at = w.in_range;
      first = omega arith;
      last = omega (arith, counted_itself (repo_text w.repo.now) world.made);
    };
    free = free;
    room = room;
    next = refl;
  }

create_is : (asked : row.Lock) (t : Tables) (o : Outcome) → o ≡ outcome_of asked t → after_create asked t ≡ after_outcome asked o t
unfolding after_create
create_is asked t o e = ap (λ p. after_outcome asked p t) (sym e)

-- the tables after the lock represent the world after it
would_make : (t : Tables) (world : World) (w : NewLock) → Represents t world → IsWorld world
    → IsWorld (after world (Some (placed_verdict world w))) × Represents (after_create (asked_lock w) t) (after world (Some (placed_verdict world w)))
would_make t world w s laws = at (outcome_of (asked_lock w) t) refl
  where
    asked : row.Lock
    asked = asked_lock w

    l : Lock
    l = lock_wanted world w

    Would : Answer → Tables → Type 0
    Would v u = IsWorld (after world (Some v)) × Represents u (after world (Some v))

    by : (v : Answer) (u : Tables) → placed_verdict world w ≡ v → after_create asked t ≡ u → Would v u → Would (placed_verdict world w) (after_create asked t)
    by v u is made both = subst (λ (a : Answer). Would a (after_create asked t)) (sym is) (subst (Would v) (sym made) both)

    at : (o : Outcome) → o ≡ outcome_of asked t → Would (placed_verdict world w) (after_create asked t)
    at (held f) e =
        let o = outcome_held t world asked f s laws e in
        by (Err (by_lock o.0)) t (path_held world w o.0 o.1) (create_is asked t (held f) e) (laws, s)
    at used_up e =
        let o = outcome_used t world asked s laws e in
        by (Err (by_rule L5)) t (no_id world w o.0 o.1) (create_is asked t used_up e) (laws, s)
    at (created n) e =
        let next = world.made (repo_text w.repo.now) + 1 in
        let numbered : created (pos next) ≡ outcome_of asked t = ap created (sym (outcome_number t world asked n s e)) ∙ e in
        let o = outcome_created t world asked next s laws numbered in
        by (Ok (makes_lock l)) (with_new_lock asked (pos next) t) (granted world w o.0 (less _ _ o.1)) (create_is asked t (created (pos next)) numbered)
        (keeps_with_lock world l (is_new world w o.0 o.1) laws, new_lock_represented t world asked (pos next) l s refl refl refl)

module _ {S : Type 0} (g : Ghosts S) (old new : S) (world : World) (w : NewLock) (honest : IsHonest g new) (h : Holds g old world) where
  -- the outcome in the tables, while they are open
  abbrev Comes : Outcome → Type 0
  Comes o = IsOpen g old × (o ≡ outcome_of (asked_lock w) (shown g old))

  pub made_by : (row : LockRow) → Comes (created (pos row.id)) → ref_text row.ref_name ≡ ref_text w.ref_name.now → path_text row.path ≡ path_text w.path.now → user_text row.owner ≡ user_text w.owner.now → row.moment ≡ w.moment
      → Makes g (after_create (asked_lock w)) old new → Creates g world w old new (Ok row)
  made_by row said ref path owner at makes =
      let l = lock_wanted world w in
      let s = h.shows (makes.moves.was_honest honest) said.0 in
      let o = outcome_created (shown g old) world (asked_lock w) row.id s h.laws said.1 in (
        (
          granted world w o.0 (less _ _ o.1),
          ends_made g old new changed world (with_lock l world) (after_create (asked_lock w)) h.ready makes
              (holds_created g old new world (asked_lock w) row.id l makes.moves said.1 (ap (λ (n : ℕ). lock_kept (record (asked_lock w) { id = pos n })) o.2) refl o.2 (is_new world w o.0 o.1) h),
        ),
        rw (o.2, ref, path, owner, at) refl,
      )

  -- nothing was changed, and the world is as before
  still : Moves g (λ t. t) old new → Makes g (after_create (asked_lock w)) old new → Ends g old new unchanged world world world
  still same makes = ends_made g old new unchanged world world (after_create (asked_lock w)) h.ready makes (holds_still g old new world same h)

  pub held_by : (found : LockRow) → Comes (held (read_lock found)) → Makes g (after_create (asked_lock w)) old new → Creates g world w old new (Err (fault.Held found))
  held_by found said makes =
      let s = h.shows (makes.moves.was_honest honest) said.0 in
      let o = outcome_held (shown g old) world (asked_lock w) (read_lock found) s h.laws said.1 in
      let own = subst (λ (p : Option Lock). IfSome p (λ k. k.repo ≡ repo_text w.repo.now)) o.1 (found_own world (repo_text w.repo.now) _) in
      let same = still_if_held g old new (asked_lock w) (read_lock found) makes.moves said.1 in
      ((path_held world w o.0 o.1 ∙ ap (λ (k : Lock). Err (by_lock k)) (sym (seen_is (repo_text w.repo.now) found o.0 o.2 own)), still same makes), same)

  pub used_by : Comes used_up → Makes g (after_create (asked_lock w)) old new → Creates g world w old new (Err fault.UsedUp)
  used_by said makes =
      let s = h.shows (makes.moves.was_honest honest) said.0 in
      let o = outcome_used (shown g old) world (asked_lock w) s h.laws said.1 in
      let same = still_if_used g old new (asked_lock w) makes.moves said.1 in
      ((no_id world w o.0 o.1, still same makes), same)

  pub refused_by : (f : StoreFault) → Fails g (after_create (asked_lock w)) old new → Creates g world w old new (Err (fault.Store f))
  refused_by f fails =
      (ends_failed g old new world (after world (Some (placed_verdict world w))) (after_create (asked_lock w)) fails (λ s. would_make (shown g old) world w s h.laws) h, fails.moves)

-- memory ran out before anything was tried
pub refused_early : {S : Type 0} (g : Ghosts S) (s : S) (w : NewLock) (f : StoreFault) (r : Result LockRow LockFault) → IsErrAnd r (λ e. e ≡ fault.Store f) → From g s s (λ world. Creates g world w s s r)
refused_early g s w f (Ok row) is = absurd is
refused_early g s w f (Err e) is = subst (λ (x : LockFault). From g s s (λ world. Creates g world w s s (Err x))) (sym is) (record {
  honest = λ k. k;
  each = λ honest world h. (ends_still g s s failed world (after world (Some (placed_verdict world w))) refl (leads_none g s world h), moves_none g s);
})
