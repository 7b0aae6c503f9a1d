-- Uploads that were removed: no step.
use Rattle.std.proofs.Common.{◌≡◌, ℕ, [], Result, Ok, Err}
use Rattle.store.specs.declared.state.State.{Ghosts}
use Rattle.model.specs.World.{World}
use Rattle.tables.specs.declared.fault.StoreFault.{StoreFault}
use Rattle.refinement.specs.Left.{From, Keeps}
use Rattle.refinement.proofs.Leading.{from_weaker}
use Rattle.uploads.specs.Removing.{Sweeps}
use Rattle.operator.specs.Works.{Works, steps_of}
use Rattle.operator.proofs.Working.{keeps_steps, works_keeps}

module _ {S : Type 0} (g : Ghosts S) where
  kept : (a b : S) (world : World) → Keeps g a b world → (done : Works g a b world) × (steps_of done.works ≡ [])
  kept a b world k = (works_keeps g a b world k, keeps_steps g a b world k)

  pub from_swept : (a b : S) (r : Result ℕ StoreFault) → From g a b (λ world. Sweeps g world a b r) → From g a b (λ world. (done : Works g a b world) × (steps_of done.works ≡ []))
  from_swept a b (Ok n) p = from_weaker g a b _ _ (λ world d. kept a b world d.0) p
  from_swept a b (Err f) p = from_weaker g a b _ _ (λ world d. kept a b world d) p
