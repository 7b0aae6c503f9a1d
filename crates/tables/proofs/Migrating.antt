-- A database of version 1 that was found, and then migrated.
use Rattle.tables.proofs.Prelude.{arith, ◌≡◌, ◌↔◌, inl, inr, pos, Bool, List, [], ◌∷◌, Ok, Err, Result, OnOk, IsTrue, sym, ap, subst, ◌∙◌, Database, Held, state, Ghosts, HasCleanDisk, Survives, survives_then, on_ok_weaker, StoreFault, Meta, Tables, tables_in, IsAfter, IsKept, Leads, Commits, current_meta}
use Rattle.sqlite_trees.specs.Tree.{Trees}
use Rattle.tables.specs.Layout.{version_one}
use Rattle.tables.specs.Calls.{LooksAtMeta}
use Rattle.tables.specs.Runs.{IsOld, IsReadyOld, HasOld, meta_of, migrated, LeadsIfAny}
use Rattle.tables.proofs.Opened.{old_meta}

module _ {S T : Type 0} (g : Ghosts S) (old mid new : Held S) (r : Result T StoreFault) (ready : IsTrue (state g old).is_open → IsOld (state g old).now) (settled : IsTrue (state g old).is_open → (state g old).now ≡ (state g old).committed)
    (found : Bool) (is : IsTrue found) (looks : LooksAtMeta g old mid (Ok found) (λ (metas : List Meta) (b : Bool). IsTrue b ↔ (metas ≡ meta_of version_one ∷ []))) (commits : Commits g (IsReadyOld (state g mid)) mid new r migrated) where
  pub was_old : HasCleanDisk (state g mid) → HasOld (state g old)
  was_old clean =
      let it = looks.answers version_one clean (old_meta (state g old) ready) in
      record { is_open = it.0; settled = settled it.0; old = ready it.0; version = it.1.0 is }

  given : IsReadyOld (state g mid)
  given clean o = let keeps = looks.same clean in subst IsOld (sym (keeps.now o)) (ready (keeps.was_open o))

  pub did : HasCleanDisk (state g new) → OnOk r (HasOld (state g old) × IsAfter migrated (state g old).now (state g new).now)
  did clean =
      let before = commits.clean clean in
      on_ok_weaker r (λ it. (was_old before, subst (λ (d : Database). IsAfter migrated d (state g new).now) ((looks.same before).now it.0) it.1)) (commits.ok clean given)

  pub migrating_survives : Survives (state g old) (state g new) (LeadsIfAny (state g old))
  migrating_survives = survives_then (state g old) (state g mid) (state g new) _ _ (LeadsIfAny (state g old)) (λ _ db none. absurd none)
      (λ clean db led.
      let before : HasCleanDisk (state g mid) = omega (arith, clean, (commits.stop given).clean) in
      let was = was_old before in
      inr (was, (led.0, was.is_open, subst (λ (d : Database). IsAfter migrated d led.0) ((looks.same before).now led.1) led.2, led.3)))
      looks.survives (commits.stop given)
