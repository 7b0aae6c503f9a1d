-- Calls that only read, of one store and of two; for proofs in other crates too.
use Rattle.std.proofs.Common.{subst, Ok}
use Rattle.tables.specs.Rows.{Tables}
use Rattle.store.specs.declared.state.State.{Ghosts}
use Rattle.store.specs.Shown.{Reads}
use Rattle.store.proofs.Moved.{moves_then, nothing_then}

module _ {S : Type 0} (g : Ghosts S) where
  -- what follows from the result of a call
  pub read_one : {X Y : Type 0} (a b : S) (x : X) (y : Y) (P : Tables → X → Type 0) (Q : Tables → Y → Type 0)
      → ((t : Tables) → P t x → Q t y) → Reads g a b (Ok x) P → Reads g a b (Ok y) Q
  read_one a b x y P Q f p = record { answers = λ honest h. let is = p.answers honest h in (is.0, f _ is.1); same = p.same; adds = p.adds }

  -- what follows from the results of two calls
  pub read_two : {X Y Z : Type 0} (a b c : S) (x : X) (y : Y) (z : Z) (P : Tables → X → Type 0) (Q : Tables → Y → Type 0) (R : Tables → Z → Type 0)
      → ((t : Tables) → P t x → Q t y → R t z) → Reads g a b (Ok x) P → Reads g b c (Ok y) Q → Reads g a c (Ok z) R
  read_two a b c x y z P Q R f p q = record {
    answers = λ honest h.
        let before = q.same.was_honest honest in
        let first = p.answers before h in
        let second = q.answers honest (p.same.ready h) in
        (first.0, f _ first.1 (subst (λ t. Q t y) (p.same.shows before h second.0) second.1));
    same = moves_then g a b c p.same q.same;
    adds = nothing_then g a b c p.adds q.adds;
  }
