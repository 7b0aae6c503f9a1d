-- Calls that only read, one after another.
use Rattle.refinement.proofs.Prelude.{Ghosts, World, IsWorld, IsHonest, Moves, AddsNothing, moves_then, nothing_then, Reads}
use Rattle.refinement.proofs.Holding.{holds_still}

module _ {S : Type 0} (g : Ghosts S) where
  -- two calls, and what follows from the two claims
  pub reads_then : (a b c : S) (P Q R : World → Type 0) → ((world : World) → IsWorld world → P world → Q world → R world) → Reads g a b P → Reads g b c Q → Reads g a c R
  reads_then a b c P Q R both p q = record {
    same = moves_then g a b c p.same q.same;
    adds = nothing_then g a b c p.adds q.adds;
    each = λ honest world h. both world h.laws (p.each (q.same.was_honest honest) world h) (q.each honest world (holds_still g a b world p.same h));
  }

  -- a weaker claim
  pub reads_weaker : (a b : S) (P Q : World → Type 0) → ((world : World) → IsWorld world → P world → Q world) → Reads g a b P → Reads g a b Q
  reads_weaker a b P Q f p = record { same = p.same; adds = p.adds; each = λ honest world h. f world h.laws (p.each honest world h) }

  -- a call that leaves the tables, and what it returned
  pub reads_same : (a b : S) (P : Type 0) → Moves g (λ t. t) a b → AddsNothing g a b → (IsHonest g b → P) → Reads g a b (λ _. P)
  reads_same a b P same adds p = record { same = same; adds = adds; each = λ honest world h. p honest }
