-- Calls that only read, one after another.
use Rattle.cursor.proofs.Prelude.{◌∙◌, World, IsWorld, Reads}
use Rattle.store.specs.declared.state.State.{Ghosts}
use Rattle.store.specs.Shown.{Moves, AddsNothing}
use Rattle.refinement.proofs.Holding.{holds_still}

module _ {S : Type 0} (g : Ghosts S) where
  moves_then : (a b c : S) → Moves g (λ t. t) a b → Moves g (λ t. t) b c → Moves g (λ t. t) a c
  moves_then a b c m n = record {
    was_honest = λ k. m.was_honest (n.was_honest k);
    was_open = λ k open_now. m.was_open (n.was_honest k) (n.was_open k open_now);
    ready = λ s. n.ready (m.ready s);
    shows = λ k s open_now. n.shows k (m.ready s) open_now ∙ m.shows (n.was_honest k) s (n.was_open k open_now);
  }

  adds_then : (a b c : S) → AddsNothing g a b → AddsNothing g b c → AddsNothing g a c
  adds_then a b c m n = record {
    was_honest = λ k. m.was_honest (n.was_honest k);
    outcomes = λ k t left. m.outcomes (n.was_honest k) t (n.outcomes k t left);
    safe = λ k s. n.safe k (m.safe (n.was_honest k) s);
  }

  pub reads_then : (a b c : S) (P Q R : World → Type 0) → ((world : World) → IsWorld world → P world → Q world → R world) → Reads g a b P → Reads g b c Q → Reads g a c R
  reads_then a b c P Q R both p q = record {
    same = moves_then a b c p.same q.same;
    adds = adds_then a b c p.adds q.adds;
    each = λ honest world h. both world h.laws (p.each (q.same.was_honest honest) world h) (q.each honest world (holds_still g a b world p.same h));
  }

  pub reads_weaker : (a b : S) (P Q : World → Type 0) → ((world : World) → IsWorld world → P world → Q world) → Reads g a b P → Reads g a b Q
  reads_weaker a b P Q f p = record { same = p.same; adds = p.adds; each = λ honest world h. f world h.laws (p.each honest world h) }
