-- What a store shows, and what a stop leaves of it, before any call and after two, for proofs in other crates.
use Rattle.std.proofs.Common.{◌≡◌, refl, ◌∙◌}
use Rattle.tables.specs.Rows.{Tables}
use Rattle.store.specs.declared.state.State.{Ghosts}
use Rattle.store.specs.Shown.{IsHonest, Moves, AddsNothing, shown}

module _ {S : Type 0} (g : Ghosts S) where
  pub moves_none : (a : S) → Moves g (λ t. t) a a
  moves_none a = record { was_honest = λ k. k; was_open = λ _ o. o; ready = λ s. s; shows = λ _ _ _. refl }

  pub nothing_none : (a : S) → AddsNothing g a a
  nothing_none a = record { was_honest = λ k. k; outcomes = λ _ t left. left; safe = λ _ s. s }

  pub moves_then : (a b c : S) → Moves g (λ t. t) a b → Moves g (λ t. t) b c → Moves g (λ t. t) a c
  moves_then a b c p q = record {
    was_honest = λ k. p.was_honest (q.was_honest k);
    was_open = λ k o. p.was_open (q.was_honest k) (q.was_open k o);
    ready = λ h. q.ready (p.ready h);
    shows = λ k h o. q.shows k (p.ready h) o ∙ p.shows (q.was_honest k) h (q.was_open k o);
  }

  -- a step that changes nothing in the tables that were shown
  pub moves_still : (a b : S) (f : Tables → Tables) → Moves g f a b → (IsHonest g b → f (shown g a) ≡ shown g a) → Moves g (λ t. t) a b
  moves_still a b f p same = record { was_honest = p.was_honest; was_open = p.was_open; ready = p.ready; shows = λ k h o. p.shows k h o ∙ same k }

  pub nothing_then : (a b c : S) → AddsNothing g a b → AddsNothing g b c → AddsNothing g a c
  nothing_then a b c p q = record {
    was_honest = λ k. p.was_honest (q.was_honest k);
    outcomes = λ k t left. p.outcomes (q.was_honest k) t (q.outcomes k t left);
    safe = λ k s. q.safe k (p.safe (q.was_honest k) s);
  }
