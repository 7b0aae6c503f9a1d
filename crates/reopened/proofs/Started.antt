-- A store that was opened over a database that was accepted is in a world, and a stop leaves that world.
use Rattle.std.proofs.Common.{◌≡◌, ℕ, inl, inr, IsTrue, List, [], ◌∷◌, Result, Ok, Err, refl, sym, ap, subst, ◌∙◌}
use Rattle.std.proofs.Math.Logic.{∥∥₁_map}
use Rattle.std.specs.Prelude.{IfOk}
use Rattle.std.proofs.lemmas.List.Sorted.{IsPermutation-refl}
use Rattle.sqlite_trees.specs.declared.store.Store as trees
use Rattle.sqlite_disk.specs.declared.Disk as disk
use Rattle.sqlite.specs.Effect.{Database}
use Rattle.sqlite.specs.Schema.{Schema}
use Rattle.model.specs.World.{World, IsWorld, nothing}
use Rattle.model.specs.Bounds.{Bound}
use Rattle.model.proofs.Keeping.{makes_world}
use Rattle.tables.specs.Layout.{version_three}
use Rattle.tables.specs.Rows.{Tables, tables_of}
use Rattle.tables.specs.Runs.{IsKept, fresh}
use Rattle.tables.specs.Shown as database
use Rattle.tables.specs.Shown.{HasNoTable, HasOurs, committed, fresh_on}
use Rattle.tables.specs.declared.Store.{Store}
use Rattle.tables.proofs.Opened.{kept_some, shown_once}
use Rattle.store.specs.Database.{alone}
use Rattle.store.specs.Normal.{normal, settled}
use Rattle.store.specs.Shown.{HasTables, IsHonest, IsOpen, IsSafe, Leaves, shown}
use Rattle.store.proofs.Alone.{has_tables}
use Rattle.placed.specs.Opening.{IsDurableIfOpen, cleared}
use Rattle.placed.specs.Placed.{beside}
use Rattle.placed.specs.View.{view}
use Rattle.placed.specs.declared.placed.Placed.{Placed}
use Rattle.refinement.specs.Left.{IsAmong}
use Rattle.refinement.specs.Objects.{DiffersInRepo}
use Rattle.refinement.specs.Opening.{IsAt, IsAtOne}
use Rattle.refinement.specs.Representation.{Represents}
use Rattle.refinement.proofs.Sorting.{into_pairs}
use Rattle.reopened.specs.Opening.{AcceptsPlaces, AreAmongWith, IsServedBy}
use Rattle.reopened.proofs.Cleared.{cleared_represented}

-- ---- the tables of a new database

fresh_represented : (file : List ℕ) (schema : Schema)
    → Represents (view file [] (cleared (normal (fresh version_three schema)))) nothing
unfolding view
fresh_represented file schema = record {
  meta = refl;
  locks = IsPermutation-refl [];
  made = λ repo. refl;
  used = λ repo. refl;
  tokens = IsPermutation-refl [];
  objects = record {
    complete = IsPermutation-refl [];
    sizes = tt;
    numbered = λ id. refl;
    owned = tt;
    staged = into_pairs DiffersInRepo [] tt;
    rise = tt;
  };
  retired = IsPermutation-refl [];
  unretired = tt;
}

-- ---- the database

module _ {S : Type 0} (g : trees.Ghosts S) (old mid : Store S) (a : AcceptsPlaces g old mid) where
  both_none : HasNoTable g old → HasOurs g version_three old → ⊥
  both_none none ours = kept_some _ none ours.kept

  -- while it is open a stop leaves what it shows
  pub accepted_durable : IsDurableIfOpen (alone g) mid
  accepted_durable k o = record {
    only = λ k t left. inl (left.0.2 ∙ ap normal (same k left.0.0 left.0.1));
    safe = a.safe;
  }
    where
      same : database.IsHonest g mid → (t : Tables) → database.Leaves g mid t → t ≡ database.shown g mid
      same k t left = elim (a.only k t left) [
        | inl new ↦ elim (a.ok k) [
          | inl made ↦ new.1 ∙ sym made.1
          | inr rests ↦ absurd (kept_some _ new.0 (subst IsKept (rests.now o) (a.ready.ready k o)))
        ]
        | inr ours ↦ elim (a.ok k) [
          | inl made ↦ absurd (both_none made.0 ours.0)
          | inr rests ↦ ours.1 ∙ sym (ap tables_of (rests.now o))
        ]
      ]

  pub ready : HasTables (alone g) mid
  ready = has_tables g mid a.ready

  -- a new database shows that of a new server
  shows_fresh : HasNoTable g old → database.IsHonest g mid → database.IsOpen g mid
      → database.shown g mid ≡ fresh_on g version_three old
  shows_fresh none k o = elim (a.ok k) [
    | inl made ↦ made.1
    | inr rests ↦ absurd (kept_some _ none (subst IsKept (rests.now o) (a.ready.ready k o)))
  ]

  -- one that has our tables shows them
  shows_ours : HasOurs g version_three old → database.IsHonest g mid → database.IsOpen g mid
      → database.shown g mid ≡ database.shown g old
  shows_ours ours k o = elim (a.ok k) [
    | inl made ↦ absurd (both_none made.0 ours)
    | inr rests ↦ ap tables_of (rests.now o)
  ]

  -- ---- with a file

  -- the contract of `Placed::open` on a store that it opened
  pub record IsOpened {D : Type 0} (d : disk.Ghosts D) (file : D) (s : Placed (Store S) D) : Type 0 where
    pub honest : IsHonest (beside (alone g) d) s → IsHonest (alone g) mid × IsTrue (d.is_clean file)
    pub was_open : HasTables (alone g) mid → IsHonest (beside (alone g) d) s → IsOpen (alone g) mid
    pub tables : HasTables (alone g) mid → IsDurableIfOpen (alone g) mid → HasTables (beside (alone g) d) s
    pub shows : HasTables (alone g) mid → IsHonest (beside (alone g) d) s → IsOpen (beside (alone g) d) s
        → shown (beside (alone g) d) s ≡ view (d.seen file) [] (cleared (shown (alone g) mid))
    pub left : HasTables (alone g) mid → IsDurableIfOpen (alone g) mid → IsHonest (beside (alone g) d) s
        → (t : Tables) → Leaves (beside (alone g) d) s t → t ≡ view (d.seen file) [] (cleared (shown (alone g) mid))
    pub safe : HasTables (alone g) mid → IsDurableIfOpen (alone g) mid → IsHonest (beside (alone g) d) s
        → IsSafe (beside (alone g) d) s

  module _ {D : Type 0} (d : disk.Ghosts D) (file : D) (s : Placed (Store S) D) (it : IsOpened d file s) where
    pub is_served : IsServedBy g d old file s
    is_served = record {
      accepted = mid;
      accepts = a;
      was_open = it.was_open ready;
      shows = it.shows ready;
      only = it.left ready accepted_durable;
    }

    is_at : (world : World) → IsWorld world
        → (database.IsHonest g mid → database.IsOpen g mid
        → Represents (view (d.seen file) [] (cleared (normal (database.shown g mid)))) world)
        → IsAt (beside (alone g) d) s world
    is_at world laws is = record {
      holds = record {
        ready = it.tables ready accepted_durable;
        laws = laws;
        shows = λ k o. subst (λ (t : Tables). Represents t world) (sym (it.shows ready k o)) (now k);
      };
      left = record {
        safe = λ k. it.safe ready accepted_durable k;
        among = λ k t leaves. inl (laws, subst (λ (u : Tables). Represents u world) (sym (it.left ready accepted_durable k t leaves)) (now k));
      };
    }
      where
        now : IsHonest (beside (alone g) d) s
            → Represents (view (d.seen file) [] (cleared (normal (database.shown g mid)))) world
        now k = is (it.honest k).0 (it.was_open ready k)

    pub is_new : HasNoTable g old → IsAt (beside (alone g) d) s nothing
    is_new none = is_at nothing (makes_world [] nothing refl) (λ k o.
        subst (λ (t : Tables). Represents (view (d.seen file) [] (cleared (normal t))) nothing) (sym (shows_fresh none k o))
        (fresh_represented (d.seen file) _))

    pub is_found : HasOurs g version_three old → (world : World) → IsWorld world
        → Represents (settled (view (d.seen file) [] (normal (database.shown g old)))) world
        → IsAt (beside (alone g) d) s world
    is_found ours world laws was = is_at world laws (λ k o.
        subst (λ (t : Tables). Represents (view (d.seen file) [] (cleared (normal t))) world) (sym (shows_ours ours k o))
        (cleared_represented (d.seen file) (normal (database.shown g old)) world was))

    one_of : HasOurs g version_three old → (bound : Bound)
        → IsAmong (settled (view (d.seen file) [] (normal (database.shown g old)))) bound
        → IsAtOne (beside (alone g) d) s bound
    one_of ours [] among = among
    one_of ours (world ∷ bound) (inl here) = inl (is_found ours world here.0 here.1)
    one_of ours (world ∷ bound) (inr rest) = inr (one_of ours bound rest)

    -- what the committed trees show is what the store shows
    pub is_one : (bound : Bound) (among : AreAmongWith (committed g old) (d.seen file) bound)
        → HasOurs g version_three old → IsAtOne (beside (alone g) d) s bound
    is_one bound among ours =
        one_of ours bound
        (subst (λ (t : Tables). IsAmong (settled (view (d.seen file) [] (normal t))) bound)
        (shown_once among.0 (committed g old) _ among.2 ours.kept (ap (λ (db : Database). db.trees) (sym ours.settled))) among.3)

-- ---- over files

-- what holds of a store if it was opened over an honest database holds if the store is honest
module _ {T E Q : Type 0} (Honest P : T → Type 0) where
  pub when_honest : (r : Result T E) → IfOk r (λ s. Honest s → Q) → (Q → IfOk r P) → IfOk r (λ s. Honest s → P s)
  when_honest (Ok s) was says = λ k. says (was k)
  when_honest (Err e) was says = tt

  pub when_held : {A : Type 0} (r : Result T E) → IfOk r (λ s. Honest s → Q) → ∥ A ∥₁
      → (A → Q → IfOk r (λ s. Honest s → P s)) → IfOk r (λ s. Honest s → ∥ P s ∥₁)
  when_held (Ok s) was held says = λ k. ∥∥₁_map held (λ a. says a (was k) k)
  when_held (Err e) was held says = tt
