-- A store that `start` accepted is in a world, and a stop leaves that world.
use Rattle.refinement.proofs.Prelude.{◌≡◌, ◌⊎◌, inl, inr, IsTrue, [], ◌∷◌, Result, Ok, Err, OnOk, refl, sym, ap, subst, ∥∥₁_map, ◌∙◌, Trees, over_files, World, IsWorld, nothing, Bound, Tables, tables_of, normal, Represents, IsAmong, IsBoundedBy}
use Rattle.sqlite_trees.specs.declared.store.Store.{Ghosts}
use Rattle.sqlite_disk.specs.declared.Disk as disk
use Rattle.sqlite_catalog.specs.Listing.{IsSound}
use Rattle.sqlite_wal.specs.Recovery.{Image}
use Rattle.sqlite_store.specs.declared.store.FileStore.{FileStore}
use Rattle.sqlite_store.specs.FileStore as files
use Rattle.sqlite.specs.Effect.{Database}
use Rattle.sqlite.specs.Schema.{Schema}
use Rattle.sqlite.proofs.Theorems.{opens_again}
use Rattle.model.proofs.Keeping.{makes_world}
use Rattle.tables.specs.Runs.{IsKept, current_meta}
use Rattle.tables.specs.Rows.{tables_under}
use Rattle.std.specs.Prelude.{IfOk}
use Rattle.tables.specs.declared.rows.Migrated.{Migrated}
use Rattle.tables.specs.declared.rows.Migrated.TheVariants as result
use Rattle.tables.specs.Shown.{HasOld, MigratesTo, IsMigrated, fresh_on, IsHonest, IsOpen, IsSafe, HasTables, shown, committed, HasNoTable, HasOurs, Rests, Leaves}
use Rattle.tables.specs.declared.Store.{Store}
use Rattle.tables.proofs.Marked.{kept_marked}
use Rattle.store.specs.Shown as store
use Rattle.store.specs.Database.{alone}
use Rattle.store.proofs.Alone.{has_tables}
use Rattle.refinement.proofs.Rearranged.{to_normal, among_normal}
use Rattle.refinement.specs.Representation.{RepresentedFirst}
use Rattle.tables.specs.Rows.{meta}
use Rattle.tables.specs.declared.layout.Layout.TheVariants.{Rows}
use Rattle.tables.specs.Layout.{version_one, current}
use Rattle.tables.specs.Schemas.{HasAll}
use Rattle.tables.proofs.Numbers.{all_with_number}
use Rattle.tables.proofs.Opened.{kept_is_sound, kept_some, shown_once, not_none}
use Rattle.refinement.specs.Opening.{Accepts, HoldsAmong, IsAt, IsAtOne, MigratesBy}
use Rattle.refinement.proofs.Changes.{fresh_represented}

module _ {S : Type 0} (g : Ghosts S) (old new : Store S) where
  -- the contract of `create_or_check` on a store that it accepted
  pub accepts : {T E : Type 0} (r : Result T E) → OnOk r (HasTables g new) → (IsHonest g new → OnOk r (IsOpen g new → (shown g new).meta ≡ current_meta ∷ [])) → (IsHonest g new → OnOk r ((HasNoTable g old × (shown g new ≡ fresh_on g current old)) ⊎ Rests g old new)) → (IsHonest g new → OnOk r (IsSafe g new))
      → (IsHonest g new → OnOk r ((t : Tables) → Leaves g new t → (HasNoTable g old × (t ≡ fresh_on g current old)) ⊎ (HasOurs g current old × (t ≡ shown g old)))) → OnOk r (Accepts g old new)
  accepts (Ok x) ready version ok safe only = record { ready = ready; version = version; ok = ok; safe = safe; only = only }
  accepts (Err e) ready version ok safe only = tt

  both_none : HasNoTable g old → HasOurs g current old → ⊥
  both_none none ours = kept_some _ none ours.kept

  pub is_new : Accepts g old new → HasNoTable g old → IsAt (alone g) new nothing
  is_new a none = record {
    holds = record {
      ready = has_tables g new a.ready;
      laws = makes_world [] nothing refl;
      shows = λ k o. to_normal (shown g new) nothing (elim (a.ok k) [
        | inl made ↦ subst (λ (t : Tables). Represents t nothing) (sym made.1) (fresh_represented _)
        | inr rests ↦ absurd (kept_some _ none (subst IsKept (rests.now o) (a.ready.ready k o)))
      ]);
    };
    left = record {
      safe = a.safe;
      among = λ k t left. elim (a.only k left.0.0 left.0.1) [
        | inl made ↦ inl (makes_world [] nothing refl, subst (λ (u : Tables). Represents u nothing) (sym (left.0.2 ∙ ap normal made.1)) (to_normal _ nothing (fresh_represented _)))
        | inr ours ↦ absurd (both_none none ours.0)
      ];
    };
  }

  pub is_found : Accepts g old new → (world : World) → IsWorld world → (IsHonest g new → HasOurs g current old × Represents (shown g old) world) → IsAt (alone g) new world
  is_found a world laws was = record {
    holds = record {
      ready = has_tables g new a.ready;
      laws = laws;
      shows = λ k o. to_normal (shown g new) world (elim (a.ok k) [
        | inl made ↦ absurd (both_none made.0 (was k).0)
        | inr rests ↦ subst (λ (d : Database). Represents (tables_of d) world) (sym (rests.now o)) (was k).1
      ]);
    };
    left = record {
      safe = a.safe;
      among = λ k t left. elim (a.only k left.0.0 left.0.1) [
        | inl made ↦ absurd (both_none made.0 (was k).0)
        | inr ours ↦ inl (laws, subst (λ (u : Tables). Represents u world) (sym (left.0.2 ∙ ap normal ours.1)) (to_normal (shown g old) world (was k).1))
      ];
    };
  }

  pub is_one : Accepts g old new → HasOurs g current old → (bound : Bound) → IsAmong (shown g old) bound → IsAtOne (alone g) new bound
  is_one a ours [] among = among
  is_one a ours (world ∷ bound) (inl here) = inl (is_found a world here.0 (λ _. (ours, here.1)))
  is_one a ours (world ∷ bound) (inr rest) = inr (is_one a ours bound rest)

  -- what the committed trees show is what the store shows
  pub committed_among : (schema : Schema) (bound : Bound) → HasOurs g current old → IsSound schema (committed g old) → IsAmong (tables_under schema (committed g old)) bound → IsAmong (shown g old) bound
  committed_among schema bound ours sound = subst (λ (t : Tables). IsAmong t bound) (shown_once schema (committed g old) _ sound ours.kept (ap (λ (d : Database). d.trees) (sym ours.settled)))

-- a migration that succeeded
module _ {S : Type 0} (g : Ghosts S) (old new : Store S) where
  pub migrates : {E : Type 0} (r : Result Migrated E) → OnOk r (HasTables g new) → (IsHonest g new → OnOk r (IsOpen g new → (shown g new).meta ≡ current_meta ∷ [])) → (IsHonest g new → IfOk r (MigratesTo g old new)) → (IsHonest g new → OnOk r (IsSafe g new)) → (IsHonest g new → IfOk r (λ m. (t : Tables) → Leaves g new t → IsMigrated g old m t)) → IfOk r (MigratesBy g old new)
  migrates (Ok m) ready version ok safe only = record { ready = ready; version = version; ok = ok; safe = safe; only = only }
  migrates (Err e) ready version ok safe only = tt

  -- without a migration it is as after `create_or_check`
  pub as_accepted : MigratesBy g old new result.Already → Accepts g old new
  as_accepted m = record { ready = m.ready; version = m.version; ok = m.ok; safe = m.safe; only = m.only }

  pub is_migrated : MigratesBy g old new result.From1 → IsHonest g new → (world : World) → IsWorld world → (HasOld g old → RepresentedFirst (shown g old) world) → IsAt (alone g) new world
  is_migrated m honest world laws was =
      let it = m.ok honest in
      record {
        holds = record { ready = has_tables g new m.ready; laws = laws; shows = λ k o. to_normal _ world (subst (λ (t : Tables). Represents t world) (sym it.1) (was it.0)) };
        left = record {
          safe = m.safe;
          among = λ k t left. inl (laws, subst (λ (u : Tables). Represents u world) (sym (left.0.2 ∙ ap normal (m.only k left.0.0 left.0.1).1)) (to_normal _ world (was it.0)));
        };
      }

  -- a database with nothing of ours is not of version 1
  none_is_old : HasNoTable g old → HasOld g old → ⊥
  none_is_old none was = not_none version_one _ _ none (was.old.schema.all.parts.made meta refl) refl

  pub none_is_new : HasNoTable g old → (m : Migrated) → MigratesBy g old new m → IsAt (alone g) new nothing
  none_is_new none result.From1 m = record {
    holds = record { ready = has_tables g new m.ready; laws = makes_world [] nothing refl; shows = λ k o. absurd (none_is_old none (m.ok k).0) };
    left = record { safe = m.safe; among = λ k t left. absurd (none_is_old none (m.ok k).0) };
  }
  none_is_new none result.Already m = is_new g old new (as_accepted m) none

-- tables that represent one of these worlds have the number of version 2
among_number : (t : Tables) (bound : Bound) → IsAmong t bound → t.meta ≡ current_meta ∷ []
among_number t [] none = absurd none
among_number t (world ∷ bound) (inl here) = here.1.meta
among_number t (world ∷ bound) (inr rest) = among_number t bound rest

-- the next open can read what a stop leaves of a store
pub left_image : {D : Type 0} {g : disk.Ghosts D} (s : Store (FileStore D g)) (bound : Bound) → IsHonest over_files s → IsBoundedBy (alone over_files) s bound → IsTrue (files.view s.conn.store).is_numbered
    → (image : Image) → (files.state s.conn.store).may_leave image → HoldsAmong image bound
left_image s bound honest b numbered image may =
    let sound : (db : Trees) → files.recovers s.conn.store db → (schema : Schema) × HasAll current schema × IsSound schema db × IsAmong (tables_under schema db) bound =
    λ db found.
    let kept = b.safe honest db found in
    let left : store.Leaves (alone over_files) s (normal (tables_of kept.0)) =
    ((tables_of kept.0, (kept.0, kept.1, subst (files.recovers s.conn.store) kept.2 found, refl), refl), kept_marked kept.0 kept.1) in
    let among : IsAmong (tables_of kept.0) bound = among_normal (tables_of kept.0) bound (b.among honest (normal (tables_of kept.0)) left) in
    (kept.0.schema, all_with_number Rows kept.0 kept.1 (among_number (tables_of kept.0) bound among), subst (IsSound kept.0.schema) (sym kept.2) (kept_is_sound kept.0 kept.1), subst (λ (t : Trees). IsAmong (tables_under kept.0.schema t) bound) (sym kept.2) among) in
    ∥∥₁_map (opens_again s.conn.store numbered (λ db found. let it = sound db found in (it.0, it.2)) image may) (λ db. (db.0, db.2, sound db.0 db.1))

-- what a migration did that returned this
pub told : {S E : Type 0} (g : Ghosts S) (old new : Store S) (r : Result Migrated E) (m : Migrated) → r ≡ Ok m → IfOk r (MigratesBy g old new) → MigratesBy g old new m
told g old new r m is by = subst (λ q. IfOk q (MigratesBy g old new)) is by

pub if_ok_on : {T E Q : Type 0} {P : T → Type 0} (r : Result T E) → ((x : T) → P x → Q) → IfOk r P → OnOk r Q
if_ok_on (Ok x) f p = f x p
if_ok_on (Err e) f p = tt

pub both_ok : {T E P Q R : Type 0} (r : Result T E) → (P → Q → R) → OnOk r P → OnOk r Q → OnOk r R
both_ok (Ok x) f p q = f p q
both_ok (Err e) f p q = tt
