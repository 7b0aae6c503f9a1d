-- The result of making a lock, from what its statements found and did.
use Rattle.tables.proofs.Prelude.{◌≡◌, ℤ, true, false, find, option_map, Option, Some, None, Ok, IsTrue, refl, sym, ap, ◌∙◌, Held, state, Ghosts, StoreFault, Count, Repo, Token, Lock, Tables, is_named, with_token, tables_in, IfReady, Does, IsLockOf, IsCountOf, lock_fields, read_lock, Outcome, held, next_outcome, outcome_by, held_at, outcome_of, made_in, made_of, after_outcome, has_token, clean_before}
use Rattle.tables.specs.declared.rows.LockRow.{LockRow}
use Rattle.tables.specs.Steps.{after_create, after_add}
use Rattle.tables.proofs.Calls.{ready_after}

held_by : (row : LockRow) (found : Option Lock) (m : ℤ) → Some (read_lock row) ≡ option_map lock_fields found → outcome_by found m ≡ held (read_lock row)
held_by row None m h = absurd (let e : Some (read_lock row) ≡ None = h in cc)
held_by row (Some l) m h = let e : read_lock row ≡ lock_fields l = (let e : Some (read_lock row) ≡ Some (lock_fields l) = h in cc) in ap held (sym e)

free : (found : Option Lock) (m : ℤ) → None ≡ option_map lock_fields found → outcome_by found m ≡ next_outcome m
free None m h = ap next_outcome (λ i. m)
free (Some l) m h = absurd (let e : None ≡ Some (lock_fields l) = h in cc)

-- the step for an outcome is that of the call
pub step_by : (l : Lock) (t : Tables) (o : Outcome) → outcome_of l t ≡ o → after_outcome l o t ≡ after_create l t
unfolding after_create
step_by l t o is = sym (ap (λ k. after_outcome l k t) is)

pub outcome_held : (l : Lock) (t : Tables) (row : LockRow) → IsLockOf (Some row) (held_at l t) → outcome_of l t ≡ held (read_lock row)
outcome_held l t row found = held_by row _ _ found

module _ {S : Type 0} (g : Ghosts S) (l : Lock) (begun after last : Held S) where
  -- if no lock is on the path, the number of locks made so far decides
  pub outcome_free : (row : Option LockRow) (count : Option Count) (o : Outcome) → row ≡ None
      → IfReady g begun after (IsTrue (state g begun).is_open × IsLockOf row (held_at l (tables_in (state g begun)))) → Does g {E = StoreFault} begun after (Ok row) (λ t. t)
      → IfReady g after last (IsTrue (state g after).is_open × IsCountOf count (find (is_named l.repo) (tables_in (state g after)).repos)) → Does g {E = StoreFault} after last (Ok count) (λ t. t)
      → ((repo : Option Repo) → IsCountOf count repo → next_outcome (made_in repo) ≡ o)
      → IfReady g begun last (IsTrue (state g begun).is_open × (outcome_of l (tables_in (state g begun)) ≡ o))
  outcome_free row count o none found looked counts counted next clean inside ready =
      let before = clean_before g after last _ counted.within clean in
      let first = looked.ok before inside ready in
      let is = found before inside ready in
      let n = (counts clean (looked.within.inside before inside) (ready_after (λ t. t) (state g begun) (state g after) first)).1 in (
        is.0,
        free _ _ (ap (option_map read_lock) (sym none) ∙ is.1) ∙ sym (ap (λ (t : Tables). next_outcome (made_of l.repo t)) first.tables) ∙ next _ n,
      )

module _ (k : Token) (t : Tables) where
  pub kept_if_there : has_token k.digest t ≡ true → t ≡ after_add k t
  unfolding after_add
  kept_if_there there = rw there refl

  pub added_if_new : has_token k.digest t ≡ false → with_token k t ≡ after_add k t
  unfolding after_add
  added_if_new none = rw none refl
