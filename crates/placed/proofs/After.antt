-- A call after one that changes nothing is a call on what was there before both.
use Rattle.placed.proofs.Prelude.{◌≡◌, inl, inr, Result, Ok, Err, ap, subst, ◌∙◌, IfOk, Tables, StoreFault, NewUpload, UploadId, upload_number, asked_upload, after_begin, IsAbove, IsBegun, Ghosts, IsHonest, IsOpen, HasTables, shown, Moves, AddsAny, AddsNothing, Makes, Puts, FailsAny, Reads, Changes, PutsOr, Begins, nothing_then}

module _ {S : Type 0} (g : Ghosts S) (a b c : S) (m : Moves g (λ t. t) a b) (n : AddsNothing g a b) where
  pub moves_after : (f : Tables → Tables) → Moves g f b c → Moves g f a c
  moves_after f p = record {
    was_honest = λ k. m.was_honest (p.was_honest k);
    was_open = λ k o. m.was_open (p.was_honest k) (p.was_open k o);
    ready = λ h. p.ready (m.ready h);
    shows = λ k h o. p.shows k (m.ready h) o ∙ ap f (m.shows (p.was_honest k) h (p.was_open k o));
  }

  pub makes_after : (f : Tables → Tables) → Makes g f b c → Makes g f a c
  makes_after f p = record {
    moves = moves_after f p.moves;
    was_open = λ k. m.was_open (p.moves.was_honest k) (p.was_open k);
    is_open = p.is_open;
    durable = λ h. p.durable (m.ready h);
  }

  adds_after : (change : Tables → Tables → Type 0) → HasTables g a → AddsAny g change b c → AddsAny g change a c
  adds_after change h p = record {
    was_honest = λ k. m.was_honest (p.was_honest k);
    outcomes = λ k t left. elim (p.outcomes k t left) [
      | inl was ↦ inl (n.outcomes (p.was_honest k) t was)
      | inr it ↦ inr (m.was_open (p.was_honest k) it.0, it.1, subst (λ (s : Tables). change s it.1) (m.shows (p.was_honest k) h it.0) it.2, it.3)
    ];
    safe = λ k s. p.safe k (n.safe (p.was_honest k) s);
  }

  pub fails_after : (change : Tables → Tables → Type 0) → FailsAny g change b c → FailsAny g change a c
  fails_after change p = record { moves = moves_after (λ t. t) p.moves; adds = λ h. adds_after change h (p.adds (m.ready h)) }

  -- the first call did all that was done
  fails_none : (change : Tables → Tables → Type 0) → FailsAny g change a b
  fails_none change = record {
    moves = m;
    adds = λ h. record { was_honest = m.was_honest; outcomes = λ k t left. inl (n.outcomes k t left); safe = n.safe };
  }

  pub puts_after : (f : Tables → Tables) → Puts g f b c → Puts g f a c
  puts_after f p = record {
    moves = moves_after f p.moves;
    adds = λ h. adds_after (λ t u. u ≡ f t) h (p.adds (m.ready h));
  }

  answers_after : {X : Type 0} (P : Tables → X → Type 0) (r : Result X StoreFault) → (IsHonest g c → IsHonest g b)
      → (IsHonest g c → HasTables g b → IfOk r (λ x. IsOpen g b × P (shown g b) x)) → IsHonest g c → HasTables g a
      → IfOk r (λ x. IsOpen g a × P (shown g a) x)
  answers_after P (Ok x) honest says k h =
      let it = says k (m.ready h) in
      (m.was_open (honest k) it.0, subst (λ (t : Tables). P t x) (m.shows (honest k) h it.0) it.1)
  answers_after P (Err f) honest says k h = tt

  module _ {X : Type 0} (P : Tables → X → Type 0) where
    pub reads_after : (r : Result X StoreFault) → Reads g b c r P → Reads g a c r P
    reads_after r e = record {
      answers = answers_after P r e.same.was_honest e.answers;
      same = moves_after (λ t. t) e.same;
      adds = nothing_then g a b c n e.adds;
    }

    pub changes_after : (f : Tables → Tables) (r : Result X StoreFault) → Changes g b c r f P → Changes g a c r f P
    changes_after f (Ok x) e = record { answers = answers_after P (Ok x) e.made.moves.was_honest e.answers; made = makes_after f e.made; failed = tt }
    changes_after f (Err fault) e = record { answers = λ k h. tt; made = tt; failed = fails_after (λ t u. u ≡ f t) e.failed }

    pub puts_or_after : (f : Tables → Tables) (r : Result X StoreFault) → PutsOr g b c r f P → PutsOr g a c r f P
    puts_or_after f (Ok x) e = record { answers = answers_after P (Ok x) e.made.moves.was_honest e.answers; made = puts_after f e.made; failed = tt }
    puts_or_after f (Err fault) e = record { answers = λ k h. tt; made = tt; failed = fails_after (λ t u. u ≡ f t) e.failed }

    -- a call that ends after the first, with an error
    pub changes_none : (f : Tables → Tables) (fault : StoreFault) → Changes g a b (Err fault) f P
    changes_none f fault = record { answers = λ k h. tt; made = tt; failed = fails_none (λ t u. u ≡ f t) }

    pub puts_none : (f : Tables → Tables) (fault : StoreFault) → PutsOr g a b (Err fault) f P
    puts_none f fault = record { answers = λ k h. tt; made = tt; failed = fails_none (λ t u. u ≡ f t) }

  pub begins_after : (r : Result UploadId StoreFault) (asked : NewUpload) → Begins g b c r asked → Begins g a c r asked
  begins_after (Ok id) asked e = record {
    answers = answers_after (λ t id. IsAbove t (upload_number id)) (Ok id) e.made.moves.was_honest e.answers;
    made = makes_after (after_begin (asked_upload asked (upload_number id))) e.made;
    failed = tt;
  }
  begins_after (Err fault) asked e = record { answers = λ k h. tt; made = tt; failed = fails_after (IsBegun asked) e.failed }

  pub begins_none : (asked : NewUpload) (fault : StoreFault) → Begins g a b (Err fault) asked
  begins_none asked fault = record { answers = λ k h. tt; made = tt; failed = fails_none (IsBegun asked) }

-- the database was honest before a call, if it is after it
pub was_honest : {S X : Type 0} (g : Ghosts S) (a b : S) (f : Tables → Tables) (r : Result X StoreFault)
    (P : Tables → X → Type 0) → Changes g a b r f P → IsHonest g b → IsHonest g a
was_honest g a b f (Ok x) P e = e.made.moves.was_honest
was_honest g a b f (Err fault) P e = e.failed.moves.was_honest
