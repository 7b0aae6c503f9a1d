-- What a task that fails leaves, by the call that failed.
use Rattle.operator.proofs.Prelude.{IfErr, ⊤, ◌≡◌, inl, inr, Result, Ok, Err, MatchResult, From, Reads, from_weaker, reads_weaker, refl, sym, subst, World, Event, Leads, Keeps, Takes, keeps_still, Ghosts, TaskFault}
use Rattle.tables.specs.declared.fault.StoreFault.{StoreFault}
use Rattle.tables.specs.declared.fault.StoreFault.TheVariants as tables
use Rattle.operator.specs.Failing.{Fails, IsPlain, IsOutput}
use Rattle.operator.specs.Faults.{of_store}
use Rattle.operator.specs.declared.faults.TaskFault.TheVariants.{Memory, Output}

-- ---- plain faults

pub store_plain : (f : StoreFault) → IsPlain (of_store f)
store_plain tables.Refused = tt
store_plain tables.Memory = tt

pub is_store : (e : TaskFault) (f : StoreFault) → e ≡ of_store f → IsPlain e
is_store e f is = subst IsPlain (sym is) (store_plain f)

pub is_output : (e : TaskFault) → e ≡ Output → IsPlain e
is_output e is = subst IsPlain (sym is) tt

pub output_follows : (e : TaskFault) → e ≡ Output → IsOutput e
output_follows e is = subst IsOutput (sym is) tt

pub is_memory : (e : TaskFault) → e ≡ Memory → IsPlain e
is_memory e is = subst IsPlain (sym is) tt

-- ---- what is left

module _ {S : Type 0} (g : Ghosts S) where
  -- a call that only read
  pub fails_still : (IsOwn : Event → Type 0) (follows : Type 0) (a b : S) (world : World) → Leads g a b world (λ bound. bound) → Fails g IsOwn follows a b world
  fails_still IsOwn follows a b world lead = record { kept = world; attempts = inl (keeps_still g a b world lead, refl); same = inl refl }

  -- a call that kept the world
  pub fails_keeps : (IsOwn : Event → Type 0) (follows : Type 0) (a b : S) (world : World) → Keeps g a b world → Fails g IsOwn follows a b world
  fails_keeps IsOwn follows a b world k = record { kept = world; attempts = inl (k, refl); same = inl refl }

  -- a step that left the world
  pub fails_before : (IsOwn : Event → Type 0) (follows : Type 0) (a b : S) (world : World) (event : Event) → IsOwn event → Takes g a b world event world → Fails g IsOwn follows a b world
  fails_before IsOwn follows a b world event own t = record { kept = world; attempts = inr (event, own, t); same = inl refl }

  -- a step, which the fault follows
  pub fails_after : (IsOwn : Event → Type 0) (follows : Type 0) (a b : S) (world kept : World) (event : Event) → IsOwn event → Takes g a b world event kept → follows → Fails g IsOwn follows a b world
  fails_after IsOwn follows a b world kept event own t late = record { kept = kept; attempts = inr (event, own, t); same = inr late }

  -- what a call did, whatever comes of the line that its caller then writes
  pub from_last : (a b : S) (r : Result ⊤ TaskFault) (F : TaskFault → Type 0) (P : World → Type 0) (Q : World → TaskFault → Type 0) → IfErr r F
      → ((world : World) (e : TaskFault) → F e → P world → Q world e) → From g a b P → From g a b (λ world. MatchResult r (λ _. P world) (Q world))
  from_last a b (Ok u) F P Q why f p = p
  from_last a b (Err e) F P Q why f p = from_weaker g a b _ _ (λ world d. f world e why d) p

  -- the same of a call that only reads, and succeeds or fails by what it found
  pub reads_last : (a b : S) (r : Result ⊤ TaskFault) (F : TaskFault → Type 0) (P : World → Type 0) (Q : World → TaskFault → Type 0) → IfErr r F
      → ((world : World) (e : TaskFault) → F e → Q world e) → Reads g a b P → Reads g a b (λ world. MatchResult r (λ _. P world) (Q world))
  reads_last a b (Ok u) F P Q why f p = p
  reads_last a b (Err e) F P Q why f p = reads_weaker g a b _ _ (λ world laws d. f world e why) p
