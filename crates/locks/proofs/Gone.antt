-- From the result of removing a lock in the tables to the world without it.
use Rattle.locks.proofs.Prelude.{◌≡◌, ◌∙◌, ℕ, pos, Bool, true, false, nat_lt, length, filter, List, Option, Some, None, is_some, Ok, Err, refl, sym, subst, Ghosts, World, Lock, changed, unchanged, has_id, without_lock, IsHonest, IsOpen, shown, Makes, Fails, StoreFault, Holds, ends_made, ends_failed, lock_with}
use Rattle.refinement.specs.Removal.{without_found}
use Rattle.refinement.proofs.Removing.{holds_removed, still_if_none, would_remove, removed_any}
use Rattle.locks.specs.Removing.{Removes}

module _ {S : Type 0} (g : Ghosts S) (old new : S) (world : World) (repo : List ℕ) (id : ℕ) (honest : IsHonest g new) (h : Holds g old world) where
  -- if no lock has the id, the world stays as it is
  none_there : (o : Option Lock) → is_some o ≡ false → without_found o world ≡ world
  none_there None none = refl
  none_there (Some l) none = absurd (cc)

  pub removed_by : (n : ℕ) → IsOpen g old × (n ≡ length (filter (has_id repo (pos id)) (shown g old).locks)) → Makes g (without_lock repo (pos id)) old new
      → (v : Bool) → nat_lt 0 n ≡ v → Removes g world repo id old new (Ok v)
  removed_by n said makes true is =
      let any = removed_any (shown g old) world repo id n (h.shows (makes.moves.was_honest honest) said.0) h.laws said.1 in (
        sym any ∙ is,
        ends_made g old new changed world (without_found (lock_with repo id world) world) (without_lock repo (pos id)) h.ready makes (holds_removed g old new world repo id makes.moves h),
      )
  removed_by n said makes false is =
      let any = removed_any (shown g old) world repo id n (h.shows (makes.moves.was_honest honest) said.0) h.laws said.1 in
      let none = sym any ∙ is in (
        none,
        ends_made g old new unchanged world world (without_lock repo (pos id)) h.ready makes
            (subst (Holds g new) (none_there (lock_with repo id world) none) (holds_removed g old new world repo id makes.moves h)),
        still_if_none g old new repo id n makes.moves said.1 is,
      )

  pub refused_by : (fault : StoreFault) → Fails g (without_lock repo (pos id)) old new → Removes g world repo id old new (Err fault)
  refused_by fault fails =
      (ends_failed g old new world (without_found (lock_with repo id world) world) (without_lock repo (pos id)) fails (λ s. would_remove (shown g old) world repo id s h.laws) h, fails.moves)
