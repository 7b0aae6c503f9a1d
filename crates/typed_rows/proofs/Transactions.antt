-- The state of a connection after calls, whatever their statements.
use Rattle.typed_rows.proofs.Prelude.{arith, ◌≡◌, ◌⊎◌, inl, inr, ℕ, List, None, Some, Option, Ok, Err, Result, IfOk, IfErr, OnOk, IsTrue, true, cond, sym, ap, subst, ◌∙◌, understood, HasCleanDisk, IsUnchanged, FailsToShow, ShowsRows, Survives, KeepsCommit, ExecutesInside, IsTooLate, RunsCommand, IsRolledBack, IsPlain, HasCleanDisk, Survives, ExecutesInside}
use Rattle.sqlite.specs.Order.{Row}
use Rattle.sqlite.specs.declared.error.Error.{Error}
use Rattle.sqlite.specs.State.{State, IsNotRun, FailsToQuery, Shown}
use Rattle.sqlite_schema.specs.declared.command.Returning.{Returning}
use Rattle.sqlite.specs.Clock.{timed}
use Rattle.sqlite.proofs.StateLemmas.{survives_then}
use Rattle.sqlite_trees.specs.declared.store.Store.{Ghosts}
use Rattle.sqlite.specs.Held.{Held, state}
use Rattle.typed_rows.specs.Transactions.{Keeps, Inside}
use Rattle.typed_rows.proofs.Found.{always}

module _ (old new : State) where
  -- inside a transaction a write commits nothing
  pub inside_keeps : (sql : List ℕ) (params : Row) (r : Result ℕ Error) → ExecutesInside 0 sql params old new r → KeepsCommit old new
  inside_keeps sql params (Ok count) h = record { was_open = λ _. h.1.was_open; committed = λ _. h.1.committed_is }
  inside_keeps sql params (Err e) (inl (outcome, inl same)) = record { was_open = λ _. same.0.was_open; committed = λ _. same.0.committed_is }
  inside_keeps sql params (Err e) (inl (outcome, inr undone)) = record { was_open = undone.was_open; committed = λ is_open. (undone.undone is_open).1 }
  inside_keeps sql params (Err e) (inr h) = record { was_open = λ _. h.2.0.was_open; committed = λ _. h.2.0.committed_is }

  pub query_inside_keeps : {X : Type 0} (items : X → List Row) (sql : List ℕ) (params : Row) → old.in_transaction ≡ true → (r : Result X Error)
      → IfOk r (λ x. Shown sql params old new (items x)) → IfErr r (λ e. FailsToQuery sql params old new e ⊎ IsTooLate sql params old new e) → KeepsCommit old new
  unfolding Shown FailsToQuery IsNotRun
  query_inside_keeps items sql params inside (Ok x) ok err = go ok.0.returning ok.2
    where
      go : (o : Option Returning) → ShowsRows old new sql ok.0 (timed params ok.0.formats ok.1.now) (items x) o → KeepsCommit old new
      go None it = record { was_open = λ _. it.3.0.was_open; committed = λ _. it.3.0.committed_is }
      go (Some what) it = record { was_open = λ _. it.1.shown.was_open; committed = λ _. it.1.shown.committed_is ∙ ap (λ b. cond b old.committed new.now) inside }
  query_inside_keeps items sql params inside (Err e) ok (inl (inl (inl h))) = record { was_open = λ _. h.1.0.was_open; committed = λ _. h.1.0.committed_is }
  query_inside_keeps items sql params inside (Err e) ok (inl (inl (inr h))) = record { was_open = h.3.was_open; committed = λ k. (h.3.undone k).1 }
  query_inside_keeps items sql params inside (Err e) ok (inl (inr h)) = go h.0.returning h.2
    where
      ran : RunsCommand old new sql h.0 (timed params h.0.formats h.1.now) (Err e) → KeepsCommit old new
      ran (inl k) = record { was_open = λ _. k.1.0.was_open; committed = λ _. k.1.0.committed_is }
      ran (inr k) = record { was_open = k.3.was_open; committed = λ o. (k.3.undone o).1 }

      go : (o : Option Returning) → FailsToShow old new sql h.0 (timed params h.0.formats h.1.now) e o → KeepsCommit old new
      go None it = record { was_open = λ _. it.3.0.was_open; committed = λ _. it.3.0.committed_is }
      go (Some what) it = ran it
  query_inside_keeps items sql params inside (Err e) ok (inr h) = record { was_open = λ _. h.5.0.was_open; committed = λ _. h.5.0.committed_is }

  pub inside_stays : (sql : List ℕ) (params : Row) (r : Result ℕ Error) → ExecutesInside 0 sql params old new r → OnOk r (new.in_transaction ≡ true)
  inside_stays sql params (Ok count) h = h.1.mode
  inside_stays sql params (Err e) h = tt

  -- a query continues the transaction
  pub query_stays : (sql : List ℕ) (params : Row) (rows : List Row) → old.in_transaction ≡ true → Shown sql params old new rows → new.in_transaction ≡ true
  unfolding Shown
  query_stays sql params rows inside h = go h.0.returning h.2
    where
      go : (o : Option Returning) → ShowsRows old new sql h.0 (timed params h.0.formats h.1.now) rows o → new.in_transaction ≡ true
      go None it = it.3.0.mode ∙ inside
      go (Some what) it = it.1.shown.mode ∙ inside

  pub shown_open : (sql : List ℕ) (params : Row) (rows : List Row) → Shown sql params old new rows → IsTrue old.is_open
  unfolding Shown
  shown_open sql params rows h = go h.0.returning h.2
    where
      go : (o : Option Returning) → ShowsRows old new sql h.0 (timed params h.0.formats h.1.now) rows o → IsTrue old.is_open
      go None it = it.3.0.was_open
      go (Some what) it = it.1.shown.was_open

  module _ (sql : List ℕ) (params : Row) (plain : IsPlain (understood old.now.schema sql)) where
    pub shown_same : (rows : List Row) → Shown sql params old new rows → IsUnchanged old new
    unfolding Shown
    shown_same rows h = (subst (ShowsRows old new sql h.0 (timed params h.0.formats h.1.now) rows) (subst IsPlain h.1.is plain).0 h.2).3

-- ---- what a crash leaves after a transaction

pub then_nothing : (a b c : State) → Survives a b (λ _. ⊥) → Survives b c (λ _. ⊥) → Survives a c (λ _. ⊥)
then_nothing a b c = survives_then a b c _ _ (λ _. ⊥) (λ _ db none. none) (λ _ db none. none)

-- a transaction that began on a store with nothing pending is undone
pub undone : (old last end : State) → (IsTrue old.is_open → old.now ≡ old.committed) → KeepsCommit old last → IsRolledBack last end → Keeps old end
undone old last end settled kept back = record {
  was_open = λ o. kept.was_open (back.was_open o);
  now = λ o. (back.undone o).0 ∙ kept.committed (back.was_open o) ∙ sym (settled (kept.was_open (back.was_open o)));
  committed = λ o. (back.undone o).1 ∙ kept.committed (back.was_open o);
}

pub keeps_then : (a b c : State) → KeepsCommit a b → KeepsCommit b c → KeepsCommit a c
keeps_then a b c p q = record { was_open = λ o. p.was_open (q.was_open o); committed = λ o. q.committed o ∙ p.committed (q.was_open o) }

-- ---- one call after another

module _ {S : Type 0} (g : Ghosts S) where
  pub clean_before : {T E : Type 0} (a b : Held S) (r : Result T E) → Inside g a b r → HasCleanDisk (state g b) → HasCleanDisk (state g a)
  clean_before a b r h clean = omega (arith, clean, h.survives.clean)

  -- decoding a result has no further effect
  pub goes_on : {T U E F : Type 0} {x : T} (a b : Held S) (r : Result U F) → Inside g {E = E} a b (Ok x) → Inside g a b r
  goes_on a b r h = record { kept = h.kept; inside = λ clean inside. always _ (h.inside clean inside) r; survives = h.survives }

  pub inside_then : {T U E F : Type 0} {x : T} (a b c : Held S) (r : Result U F) → Inside g {E = E} a b (Ok x) → Inside g b c r → Inside g a c r
  inside_then a b c r p q = record {
    kept = λ clean inside. let before = clean_before b c r q clean in keeps_then (state g a) (state g b) (state g c) (p.kept before inside) (q.kept clean (p.inside before inside));
    inside = λ clean inside. q.inside clean (p.inside (clean_before b c r q clean) inside);
    survives = then_nothing (state g a) (state g b) (state g c) p.survives q.survives;
  }

  -- the state after a statement that writes
  pub executed : (old new : Held S) (sql : List ℕ) (params : Row) (r : Result ℕ Error) → Survives (state g old) (state g new) (λ _. ⊥)
      → (HasCleanDisk (state g new) → IsTrue old.in_transaction → ExecutesInside 0 sql params (state g old) (state g new) r) → Inside g old new r
  executed old new sql params r survives ran = record {
    kept = λ clean inside. inside_keeps (state g old) (state g new) sql params r (ran clean inside);
    inside = λ clean inside. inside_stays (state g old) (state g new) sql params r (ran clean inside);
    survives = survives;
  }
