-- What a migration makes of a store, from what it did to its connection.
use Rattle.tables.proofs.Prelude.{arith, ◌≡◌, inl, inr, None, Ok, Err, Result, IfOk, IfOk-weaker, refl, ◌∙◌, Database, Held, state, Ghosts, Survives, Store}
use Rattle.tables.specs.declared.rows.Migrated.{Migrated}
use Rattle.tables.specs.declared.rows.Migrated.TheVariants as result
use Rattle.tables.specs.Runs.{Migrates, LeavesMigrated, LeadsIfAny, with_fresh}
use Rattle.tables.specs.Rows.{Tables}
use Rattle.tables.specs.Shown.{MigratesTo, IsMigrated, AddsMigrated, Leaves}

module _ {S : Type 0} (g : Ghosts S) (old : Store S) (conn : Held S) where
  abbrev new : Store S
  new = record { conn = conn; staged = None }

  pub migrates_to : {E : Type 0} (r : Result Migrated E) → IfOk r (Migrates (state g old.conn) (state g conn)) → IfOk r (MigratesTo g old new)
  unfolding with_fresh
  migrates_to (Ok result.From1) h = (h.0, h.1.tables)
  migrates_to (Ok result.Already) h = elim h [ inl made ↦ inl (made.0, made.2.tables) | inr kept ↦ inr kept ]
  migrates_to (Err e) h = tt

  pub leaves_migrated : {E : Type 0} (r : Result Migrated E) → IfOk r (LeavesMigrated (state g old.conn) (state g conn)) → IfOk r (λ m. (t : Tables) → Leaves g new t → IsMigrated g old m t)
  leaves_migrated (Ok result.From1) h = λ t left. (h.0, left.3 ∙ h.1 left.0 left.1 left.2)
  leaves_migrated (Ok result.Already) h = λ t left. elim (h left.0 left.1 left.2) [ inl made ↦ inl (made.0, left.3 ∙ made.1) | inr ours ↦ inr (ours.0, left.3 ∙ ours.1) ]
  leaves_migrated (Err e) h = tt

  pub adds_migrated : Survives (state g old.conn) (state g conn) (LeadsIfAny (state g old.conn)) → AddsMigrated g old new
  unfolding with_fresh
  adds_migrated survives = record {
    was_honest = λ clean. omega (arith, clean, survives.clean);
    outcomes = λ clean trees left. elim (survives.crash clean trees left) [
      | inl was ↦ inl was
      | inr led ↦ inr (elim led [
        | inl fresh ↦ (fresh.1.0, fresh.1.2.kept, fresh.1.3, inl (fresh.0, fresh.1.2.tables))
        | inr old_led ↦ (old_led.1.0, old_led.1.2.kept, old_led.1.3, inr (old_led.0, old_led.1.2.tables))
      ])
    ];
  }
