-- Tasks that take no step, by the calls that they make.
use Rattle.operator.proofs.Prelude.{⊤, ℕ, Result, Ok, Err, IfErr, OnOk, MatchResult, World, Event, From, Reads, Keeps, Leads, reads_lead, from_weaker, Sweeps, Ghosts, TaskFault}
use Rattle.refinement.specs.Left.{KeepsTables}
use Rattle.operator.specs.Failing.{Fails, IsPlain}
use Rattle.operator.specs.Tasks.{IsCheck}
use Rattle.operator.specs.declared.tasks.Task.{Task}
use Rattle.operator.proofs.Failing.{fails_keeps, fails_still}

module _ {S : Type 0} (g : Ghosts S) where
  -- a call that only reads, and succeeds or fails by what it finds
  pub ran_reads : (IsOwn : Event → Type 0) (a b : S) (P : World → Type 0) (Q : World → TaskFault → Type 0) (r : Result ⊤ TaskFault) → Reads g a b (λ world. MatchResult r (λ _. P world) (Q world))
      → From g a b (λ world. MatchResult r (λ _. Leads g a b world (λ bound. bound) × P world) (λ e. Fails g IsOwn ⊥ a b world × Q world e))
  ran_reads IsOwn a b P Q (Ok u) p = record { honest = p.same.was_honest; each = λ honest world h. (reads_lead g a b _ world p h, p.each honest world h) }
  ran_reads IsOwn a b P Q (Err e) p = record { honest = p.same.was_honest; each = λ honest world h. (fails_still g IsOwn ⊥ a b world (reads_lead g a b _ world p h), p.each honest world h) }

  -- a check of a world changes nothing
  pub ran_checked : (IsOwn : Event → Type 0) (a b : S) (r : Result ⊤ TaskFault) → From g a b (λ _. Reads g a b (λ _. ⊤) × IfErr r IsPlain)
      → From g a b (λ world. MatchResult r (λ _. Leads g a b world (λ bound. bound)) (λ e. Fails g IsOwn ⊥ a b world × IsPlain e))
  ran_checked IsOwn a b (Ok u) p = record { honest = p.honest; each = λ honest world h. reads_lead g a b _ world (p.each honest world h).0 h }
  ran_checked IsOwn a b (Err e) p = record { honest = p.honest; each = λ honest world h. let it = p.each honest world h in (fails_still g IsOwn ⊥ a b world (reads_lead g a b _ world it.0 h), it.1) }

  -- a call that only reads, whatever it finds
  pub ran_still : (IsOwn : Event → Type 0) (a b : S) (P : World → Type 0) (r : Result ⊤ TaskFault) → IfErr r IsPlain → Reads g a b P
      → From g a b (λ world. MatchResult r (λ _. Leads g a b world (λ bound. bound)) (λ e. Fails g IsOwn ⊥ a b world × IsPlain e))
  ran_still IsOwn a b P (Ok u) why p = record { honest = p.same.was_honest; each = λ honest world h. reads_lead g a b _ world p h }
  ran_still IsOwn a b P (Err e) why p = record { honest = p.same.was_honest; each = λ honest world h. (fails_still g IsOwn ⊥ a b world (reads_lead g a b _ world p h), why) }

  -- a repair of a world changes nothing
  pub ran_repaired : (IsOwn : Event → Type 0) (a b : S) (r : Result ⊤ TaskFault) → From g a b (λ _. Reads g a b (λ _. ⊤) × IfErr r IsPlain)
      → From g a b (λ world. MatchResult r (λ _. Leads g a b world (λ bound. bound) × KeepsTables g a b) (λ e. Fails g IsOwn ⊥ a b world × IsPlain e))
  ran_repaired IsOwn a b (Ok u) p = record { honest = p.honest; each = λ honest world h. let it = (p.each honest world h).0 in (reads_lead g a b _ world it h, it.same) }
  ran_repaired IsOwn a b (Err e) p = record { honest = p.honest; each = λ honest world h. let it = p.each honest world h in (fails_still g IsOwn ⊥ a b world (reads_lead g a b _ world it.0 h), it.1) }

  -- staged uploads are removed
  pub ran_sweep : (IsOwn : Event → Type 0) (a b : S) (r : Result ⊤ TaskFault)
      → From g a b (λ world. MatchResult r (λ _. (n : ℕ) × Sweeps g world a b (Ok n)) (λ e. Keeps g a b world × IsPlain e))
      → From g a b (λ world. MatchResult r (λ _. (n : ℕ) × Sweeps g world a b (Ok n)) (λ e. Fails g IsOwn ⊥ a b world × IsPlain e))
  ran_sweep IsOwn a b (Ok u) p = p
  ran_sweep IsOwn a b (Err e) p = from_weaker g a b _ _ (λ world d. (fails_keeps g IsOwn ⊥ a b world d.0, d.1)) p

-- a task that is no check
pub no_check : (r : Result ⊤ TaskFault) (task : Task) (P : Type 0) → (IsCheck task → ⊥) → OnOk r (IsCheck task → P)
no_check (Ok u) task P never = λ check. absurd (never check)
no_check (Err e) task P never = tt
