-- From the result of a request for a lock to the reply.
use Rattle.desk.proofs.Prelude.{◌≡◌, ◌∙◌, ◌<◌, ◌+◌, ℕ, true, nat_lt, Some, None, Option, Result, Ok, Err, refl, sym, ap, subst, arith, false, nat_tests, Ghosts, repo_text, ref_text, path_text, L5, World, Lock, lock_at, Answer, makes_lock, by_lock, by_rule, store_refusal, NewLock, LockRow, ends_reported, lock_seen, state_of, lock_wanted, placed_verdict, Creates, NotGranted, Reply, IsReplyOf, Answers, AnswersAlone, free_verdict, IsReadyAfter, ReportsHeld}
use Rattle.names.specs.Texts.{last_lock_id}
use Rattle.locks.specs.declared.creating.LockFault.TheVariants as fault
use Rattle.refinement.specs.Left.{Gives}

less : (a b : ℕ) → a < b → nat_lt a b ≡ true
less a b h = grind (arith, nat_tests)

-- the verdict on a lock on a free path
pub free_is : (made : ℕ) (l : Lock) → made < last_lock_id → free_verdict made l ≡ Ok (makes_lock l)
free_is made l room = rw (less made last_lock_id room) refl

pub free_is_not : (made : ℕ) (l : Lock) → last_lock_id ≡ made → free_verdict made l ≡ Err (by_rule L5)
free_is_not made l full = rw (← full) refl

module _ (world : World) (w : NewLock) where
  -- a verdict that names no lock is the one on a free path
  on_free : (v : Answer) → ((k : Lock) → Err (by_lock k) ≡ v → ⊥) → placed_verdict world w ≡ v → free_verdict (world.made (repo_text w.repo.now)) (lock_wanted world w) ≡ v
  on_free v names_none is = at (lock_at (ref_text w.ref_name.now) (path_text w.path.now) (state_of (repo_text w.repo.now) world)) refl is
    where
      at : (o : Option Lock) → lock_at (ref_text w.ref_name.now) (path_text w.path.now) (state_of (repo_text w.repo.now) world) ≡ o → placed_verdict world w ≡ v
          → free_verdict (world.made (repo_text w.repo.now)) (lock_wanted world w) ≡ v
      at None free given = sym (rw free refl) ∙ given
      at (Some k) there given = absurd (names_none k (sym (rw there refl) ∙ given))

module _ {S : Type 0} (g : Ghosts S) (mid new : S) (world : World) (w : NewLock) (made : ℕ) (counted : made ≡ world.made (repo_text w.repo.now)) (ready : Reply) (is_ready : IsReadyAfter made w ready) where
  -- the reply for a free path, if this is the verdict on one
  free_reply : (v : Answer) → free_verdict (world.made (repo_text w.repo.now)) (lock_wanted world w) ≡ v → IsReplyOf ready v
  free_reply v is = subst (IsReplyOf ready) (ap (λ n. free_verdict n (lock_wanted world w)) counted ∙ is) (is_ready (lock_wanted world w) (ap (λ n. n + 1) (sym counted)) refl refl refl)

  -- the reply for a free path, which makes the lock or reports that no id is left
  free_done : (v : Answer) → ((k : Lock) → Err (by_lock k) ≡ v → ⊥) → placed_verdict world w ≡ v → Gives g mid new world v v → Answers g mid new world v (Ok ready)
  free_done v names_none is gives =
      let shows = free_reply v (on_free world w v names_none is) in
      record { shows = shows; gives = gives }

  as_placed : (v : Answer) (r : Result Reply NotGranted) → placed_verdict world w ≡ v → AnswersAlone g mid new world v r → AnswersAlone g mid new world (placed_verdict world w) r
  as_placed v r is done = subst (λ (a : Answer). AnswersAlone g mid new world a r) (sym is) done

  pub made_done : (row : LockRow) → Creates g world w mid new (Ok row) → AnswersAlone g mid new world (placed_verdict world w) (Ok ready)
  made_done row done =
      let v : Answer = Ok (makes_lock (lock_wanted world w)) in as_placed v (Ok ready) done.0.0 (free_done v (λ k e. absurd (cc)) done.0.0 done.0.1, tt)

  pub used_done : Creates g world w mid new (Err fault.UsedUp) → AnswersAlone g mid new world (placed_verdict world w) (Ok ready)
  used_done done = let v : Answer = Err (by_rule L5) in as_placed v (Ok ready) done.0.0 (free_done v (λ k e. absurd (cc)) done.0.0 done.0.1, done.1)

module _ {S : Type 0} (g : Ghosts S) (mid new : S) (world : World) (w : NewLock) (row : LockRow) (done : Creates g world w mid new (Err (fault.Held row))) where
  abbrev held : Answer
  held = Err (by_lock (lock_seen (repo_text w.repo.now) row))

  -- the reply reports the lock that holds the path
  pub held_done : (reply : Reply) → ReportsHeld row reply → AnswersAlone g mid new world (placed_verdict world w) (Ok reply)
  held_done reply reports =
      let shows = reports (lock_seen (repo_text w.repo.now) row) (record { id = refl; at = refl; owner = refl; path = refl }) in
      subst (λ (a : Answer). AnswersAlone g mid new world a (Ok reply)) (sym done.0.0) (record { shows = shows; gives = done.0.1 }, done.1)

  -- memory ran out for the reply
  pub unreported : Gives g mid new world (placed_verdict world w) store_refusal
  unreported = subst (λ (a : Answer). Gives g mid new world a store_refusal) (sym done.0.0) (ends_reported g mid new world world done.0.1)
