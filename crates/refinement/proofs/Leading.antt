-- Successive calls, and what a stop leaves of the store that they borrow.
use Rattle.refinement.proofs.Prelude.{◌≡◌, ◌⊎◌, inl, inr, Bool, true, false, cond, List, [], ◌∷◌, ◌++◌, Option, Some, Result, Ok, Err, OnOk, OnErr, refl, sym, ap, subst, true≢false, Ghosts, World, IsWorld, Bound, Ending, changed, failed, is_changed, left_by, world_by, answer_ending, ending_of, intended_world, bound_after, bound_of_run, Tables, IsHonest, IsOpen, IsDurable, HasTables, Moves, AddsNothing, Makes, Puts, Fails, FailsAny, shown, moves_none, moves_then, nothing_none, Represents, Holds, IsAmong, IsBoundedBy, Leads, Keeps, Ends, KeepsTables, LeavesTables, Gives, Takes, From, Reads}
use Rattle.model.specs.Answers.{Answer, Denial, is_store_refusal}
use Rattle.model.specs.Bounds.{unchanged}
use Rattle.model.specs.Steps.{Exchange, Event, exchanged, judgement, after, IsExchange, IsStep, Run}
use Rattle.model.proofs.Left.{reports_are_true}
use Rattle.refinement.proofs.Holding.{holds_still}
use Rattle.refinement.proofs.Rearranged.{remains_represented}

-- the bound of a run, with one more event
one_event_more : (old mid : World) (events : List Event) (event : Event) (bound : Bound) → Run old events mid
    → bound_of_run old (events ++ event ∷ []) bound ≡ bound_after mid event (bound_of_run old events bound)
one_event_more old mid [] event bound run = ap (λ (w : World). bound_after w event bound) (sym run)
one_event_more old mid (first ∷ events) event bound run =
    let so_far = bound_after old first bound in
    subst (λ (w : World). bound_of_run w (events ++ event ∷ []) so_far ≡ bound_after mid event (bound_of_run w events so_far)) (reports_are_true old first run.0 run.1)
    (one_event_more run.0 mid events event so_far run.2)

module _ {S : Type 0} (g : Ghosts S) where
  -- ---- from the contract of a call on the tables

  -- the disk was honest before a call that made a step, or failed to
  pub was_by : {T E : Type 0} (f : Tables → Tables) (a b : S) (r : Result T E) → OnOk r (Makes g f a b) → OnErr r (Fails g f a b) → IsHonest g b → IsHonest g a
  was_by f a b (Ok x) made miss = made.moves.was_honest
  was_by f a b (Err e) made miss = miss.moves.was_honest

  -- the same of a call that puts a step
  pub was_put_by : {T E : Type 0} (f : Tables → Tables) (a b : S) (r : Result T E) → OnOk r (Puts g f a b) → OnErr r (Fails g f a b) → IsHonest g b → IsHonest g a
  was_put_by f a b (Ok x) put miss = put.moves.was_honest
  was_put_by f a b (Err e) put miss = miss.moves.was_honest

  -- ---- bounds

  -- one more world
  more : (s : S) (world : World) (bound : Bound) → IsBoundedBy g s bound → IsBoundedBy g s (world ∷ bound)
  more s world bound b = record { safe = b.safe; among = λ k t left. inr (b.among k t left) }

  -- a stop leaves the world of a durable store, so any bound with that world holds
  first : (s : S) (world : World) (bound : Bound) → (IsHonest g s → IsOpen g s) → IsDurable g s → Holds g s world → IsBoundedBy g s (world ∷ bound)
  first s world bound is_open d h = record {
    safe = d.safe;
    among = λ k t left. inl (h.laws, remains_represented (shown g s) t world (d.only k t left) (h.shows k (is_open k)));
  }

  -- ---- calls that leave the tables unchanged

  -- no call was made on the store
  pub leads_none : (a : S) (world : World) → Holds g a world → Leads g a a world (λ bound. bound)
  leads_none a world h = record { holds = h; left = λ bound b. b }

  -- a call that only reads
  pub leads_still : (a b : S) (world : World) → Moves g (λ t. t) a b → AddsNothing g a b → Holds g a world → Leads g a b world (λ bound. bound)
  leads_still a b world moves adds h = record {
    holds = holds_still g a b world moves h;
    left = λ bound was. record {
      safe = λ k. adds.safe k (was.safe (adds.was_honest k));
      among = λ k t left. was.among (adds.was_honest k) t (adds.outcomes k t left);
    };
  }

  -- one call after another
  pub leads_then : (a b c : S) (mid kept : World) (f h : Bound → Bound) → Leads g a b mid f → Leads g b c kept h → Leads g a c kept (λ bound. h (f bound))
  leads_then a b c mid kept f h p q = record { holds = q.holds; left = λ bound was. q.left (f bound) (p.left bound was) }

  -- calls that only read, before one that may do more
  pub still_then : (a b c : S) (world kept : World) (next : Bound → Bound) → Leads g a b world (λ bound. bound) → Leads g b c kept next → Leads g a c kept next
  still_then a b c world kept next p q = leads_then a b c world kept (λ bound. bound) next p q

  -- ---- calls that keep the world

  -- the same world twice in a bound
  once : (s : S) (world : World) (bound : Bound) → IsBoundedBy g s (world ∷ world ∷ bound) → IsBoundedBy g s (world ∷ bound)
  once s world bound b = record { safe = b.safe; among = λ k t left. elim (b.among k t left) [ inl is ↦ inl is | inr rest ↦ rest ] }

  -- after another one
  once_after : (s : S) (made world : World) (bound : Bound) → IsBoundedBy g s (made ∷ world ∷ world ∷ bound) → IsBoundedBy g s (made ∷ world ∷ bound)
  once_after s made world bound b = record {
    safe = b.safe;
    among = λ k t left. elim (b.among k t left) [
      | inl is ↦ inl is
      | inr rest ↦ inr (elim rest [ inl is ↦ inl is | inr old ↦ old ])
    ];
  }

  -- a call that only reads keeps the world
  pub keeps_still : (a b : S) (world : World) → Leads g a b world (λ bound. bound) → Keeps g a b world
  keeps_still a b world p = record { holds = p.holds; left = λ bound was. more b world bound (p.left bound was) }

  -- a store holds the world that its tables represent after a committed step
  pub holds_made : (a b : S) (made : World) (f : Tables → Tables) → HasTables g a → Makes g f a b → IsWorld made → (IsHonest g a → IsOpen g a → Represents (f (shown g a)) made) → Holds g b made
  holds_made a b made f ready m laws would = record {
    ready = m.moves.ready ready;
    laws = laws;
    shows = λ k o. subst (λ (t : Tables). Represents t made) (sym (m.moves.shows k ready o)) (would (m.moves.was_honest k) (m.moves.was_open k o));
  }

  -- a call that committed a step after which the tables represent the same world
  pub keeps_made : (a b : S) (world : World) (f : Tables → Tables) → Makes g f a b → (IsHonest g a → IsOpen g a → Represents (shown g a) world → Represents (f (shown g a)) world) → Holds g a world
      → Keeps g a b world
  keeps_made a b world f m would h =
      let holds = holds_made a b world f h.ready m h.laws (λ k o. would k o (h.shows k o)) in
      record { holds = holds; left = λ bound was. first b world bound m.is_open (m.durable h.ready) holds }

  -- a call that failed, after which a stop may leave changed tables that represent the same world
  pub keeps_failed : (a b : S) (world : World) (change : Tables → Tables → Type 0) → FailsAny g change a b
      → ((t : Tables) → IsHonest g a → IsOpen g a → Represents (shown g a) world → change (shown g a) t → Represents t world) → Holds g a world → Keeps g a b world
  keeps_failed a b world change fails would h = record {
    holds = holds_still g a b world fails.moves h;
    left = λ bound was. record {
      safe = λ k. (fails.adds h.ready).safe k (was.safe (fails.moves.was_honest k));
      among = λ k t left.
          let honest = fails.moves.was_honest k in
          elim ((fails.adds h.ready).outcomes k t left) [
            | inl old ↦ inr (was.among honest t old)
            | inr new ↦ inl (h.laws, remains_represented new.1 t world new.3 (would new.1 honest new.0 (h.shows honest new.0) new.2))
          ];
    };
  }

  -- a call that makes a step after which the tables represent the same world, or fails
  pub keeps_by : {T E : Type 0} (a b : S) (r : Result T E) (world : World) (f : Tables → Tables) → OnOk r (Makes g f a b) → OnErr r (Fails g f a b)
      → (IsHonest g a → IsOpen g a → Represents (shown g a) world → Represents (f (shown g a)) world) → Holds g a world → Keeps g a b world
  keeps_by a b (Ok x) world f made miss would h = keeps_made a b world f made would h
  keeps_by a b (Err e) world f made miss would h =
      keeps_failed a b world (λ old t. t ≡ f old) miss (λ t k o s is. subst (λ (u : Tables). Represents u world) (sym is) (would k o s)) h

  -- a call that made a step after which the tables represent the same world, and of which a stop may leave nothing
  pub keeps_put : (a b : S) (world : World) (f : Tables → Tables) → Puts g f a b → (IsHonest g a → IsOpen g a → Represents (shown g a) world → Represents (f (shown g a)) world) → Holds g a world
      → Keeps g a b world
  keeps_put a b world f p would h = record {
    holds = record {
      ready = p.moves.ready h.ready;
      laws = h.laws;
      shows = λ k o.
          let honest = p.moves.was_honest k in
          let opened = p.moves.was_open k o in
          subst (λ (t : Tables). Represents t world) (sym (p.moves.shows k h.ready o)) (would honest opened (h.shows honest opened));
    };
    left = λ bound was. record {
      safe = λ k. (p.adds h.ready).safe k (was.safe (p.moves.was_honest k));
      among = λ k t left.
          let honest = p.moves.was_honest k in
          elim ((p.adds h.ready).outcomes k t left) [
            | inl old ↦ inr (was.among honest t old)
            | inr new ↦ inl (h.laws, remains_represented new.1 t world new.3 (subst (λ (u : Tables). Represents u world) (sym new.2) (would honest new.0 (h.shows honest new.0))))
          ];
    };
  }

  -- the same, of a call that puts a step or fails
  pub keeps_put_by : {T E : Type 0} (a b : S) (r : Result T E) (world : World) (f : Tables → Tables) → OnOk r (Puts g f a b) → OnErr r (Fails g f a b)
      → (IsHonest g a → IsOpen g a → Represents (shown g a) world → Represents (f (shown g a)) world) → Holds g a world → Keeps g a b world
  keeps_put_by a b (Ok x) world f put miss would h = keeps_put a b world f put would h
  keeps_put_by a b (Err e) world f put miss would h =
      keeps_failed a b world (λ old t. t ≡ f old) miss (λ t k o s is. subst (λ (u : Tables). Represents u world) (sym is) (would k o s)) h

  -- two calls that keep the world
  pub keeps_then : (a b c : S) (world : World) → Keeps g a b world → Keeps g b c world → Keeps g a c world
  keeps_then a b c world p q = record { holds = q.holds; left = λ bound was. once c world bound (q.left (world ∷ bound) (p.left bound was)) }

  -- a call that keeps the world, before one that may change it
  pub keeps_ends : (a b c : S) (ending : Ending) (world made kept : World) → Keeps g a b world → Ends g b c ending world made kept → Ends g a c ending world made kept
  keeps_ends a b c changed world made kept p q = record { holds = q.holds; left = λ bound was. q.left (world ∷ bound) (p.left bound was) }
  keeps_ends a b c unchanged world made kept p q = record { holds = q.holds; left = λ bound was. once c world bound (q.left (world ∷ bound) (p.left bound was)) }
  keeps_ends a b c failed world made kept p q =
      record { holds = q.holds; left = λ bound was. once_after c made world bound (q.left (world ∷ bound) (p.left bound was)) }

  among_left : (t : Tables) (ending : Ending) (world made : World) (bound : Bound) → IsWorld (world_by ending world made) × Represents t (world_by ending world made) → IsAmong t (left_by ending world made bound)
  among_left t changed world made bound is = inl is
  among_left t unchanged world made bound is = inl is
  among_left t failed world made bound is = inr (inl is)

  -- a call, and then calls that keep the world that it led to
  pub ends_then : (a b c : S) (world made : World) (ending : Ending) → Ends g a b ending world made (world_by ending world made) → Keeps g b c (world_by ending world made) → Ends g a c ending world made (world_by ending world made)
  ends_then a b c world made ending p q = record {
    holds = q.holds;
    left = λ bound was.
        let it = q.left (left_by ending world made bound) (p.left bound was) in
        record { safe = it.safe; among = λ k t left. elim (it.among k t left) [ inl is ↦ among_left t ending world made bound is | inr rest ↦ rest ] };
  }

  -- ---- how a call ends

  -- it made no change, and nothing was tried
  pub ends_still : (a b : S) (ending : Ending) (world made : World) → is_changed ending ≡ false → Leads g a b world (λ bound. bound) → Ends g a b ending world made world
  ends_still a b changed world made quiet p = absurd (true≢false quiet)
  ends_still a b unchanged world made quiet p = record { holds = p.holds; left = λ bound was. more b world bound (p.left bound was) }
  ends_still a b failed world made quiet p = record { holds = p.holds; left = λ bound was. more b made (world ∷ bound) (more b world bound (p.left bound was)) }

  -- a call that changed nothing is reported as failed
  pub ends_reported : (a b : S) (world made : World) → Ends g a b unchanged world made world → Ends g a b failed world made world
  ends_reported a b world made p = record { holds = p.holds; left = λ bound was. more b made (world ∷ bound) (p.left bound was) }

  -- a change was tried, and refused; it would have led to a world, or kept the old one
  pub ends_failed_or : (a b : S) (world made : World) (f : Tables → Tables) → Fails g f a b
      → (IsHonest g a → IsOpen g a → Represents (shown g a) world → (IsWorld made × Represents (f (shown g a)) made) ⊎ Represents (f (shown g a)) world) → Holds g a world → Ends g a b failed world made world
  ends_failed_or a b world made f fails would h = record {
    holds = holds_still g a b world fails.moves h;
    left = λ bound was. record {
      safe = λ k. (fails.adds h.ready).safe k (was.safe (fails.moves.was_honest k));
      among = λ k t left.
          let honest = fails.moves.was_honest k in
          elim ((fails.adds h.ready).outcomes k t left) [
            | inl old ↦ inr (inr (was.among honest t old))
            | inr new ↦ elim (would honest new.0 (h.shows honest new.0)) [
              | inl it ↦ inl (it.0, remains_represented new.1 t made new.3 (subst (λ (u : Tables). Represents u made) (sym new.2) it.1))
              | inr same ↦ inr (inl (h.laws, remains_represented new.1 t world new.3 (subst (λ (u : Tables). Represents u world) (sym new.2) same)))
            ]
          ];
    };
  }

  -- a change was tried, and refused
  pub ends_failed : (a b : S) (world made : World) (f : Tables → Tables) → Fails g f a b → (Represents (shown g a) world → IsWorld made × Represents (f (shown g a)) made) → Holds g a world
      → Ends g a b failed world made world
  ends_failed a b world made f fails would h = ends_failed_or a b world made f fails (λ k o s. inl (would s)) h

  -- the transaction was committed, whatever it changed
  pub ends_made : (a b : S) (ending : Ending) (world made : World) (f : Tables → Tables) → HasTables g a → Makes g f a b → Holds g b (world_by ending world made) → Ends g a b ending world made (world_by ending world made)
  ends_made a b changed world made f s m h = record { holds = h; left = λ bound was. first b made [] m.is_open (m.durable s) h }
  ends_made a b unchanged world made f s m h = record { holds = h; left = λ bound was. first b world bound m.is_open (m.durable s) h }
  ends_made a b failed world made f s m h = record { holds = h; left = λ bound was. more b made (world ∷ bound) (first b world bound m.is_open (m.durable s) h) }

  -- ---- the tables

  -- the tables are as before, whatever was reported
  pub leaves_kept : (a b : S) (ending : Ending) → KeepsTables g a b → LeavesTables g ending a b
  leaves_kept a b changed same = tt
  leaves_kept a b unchanged same = same
  leaves_kept a b failed same = same

  -- after calls that only read
  pub leaves_then : (a b c : S) (ending : Ending) → KeepsTables g a b → LeavesTables g ending b c → LeavesTables g ending a c
  leaves_then a b c changed same leaves = tt
  leaves_then a b c unchanged same leaves = moves_then g a b c same leaves
  leaves_then a b c failed same leaves = moves_then g a b c same leaves

  -- a denial makes no change
  pub denial_changes_none : (world : World) (denial : Denial) → is_changed (answer_ending world (Some (Err denial))) ≡ false
  denial_changes_none world denial = at (is_store_refusal (Err denial))
    where
      at : (v : Bool) → is_changed (cond v failed unchanged) ≡ false
      at true = refl
      at false = refl

  -- ---- steps

  -- an event that changed nothing, and for which nothing was tried
  pub takes_still : (a b : S) (world : World) (event : Event) → is_changed (ending_of world event) ≡ false → IsStep world event world → Leads g a b world (λ bound. bound) → Takes g a b world event world
  takes_still a b world event quiet step p = record { step = step; leads = ends_still a b (ending_of world event) world (intended_world world event) quiet p }

  -- an event that the store refused
  pub takes_failed : (a b : S) (world : World) (event : Event) (f : Tables → Tables) → ending_of world event ≡ failed → IsStep world event world → Fails g f a b
      → (Represents (shown g a) world → IsWorld (intended_world world event) × Represents (f (shown g a)) (intended_world world event)) → Holds g a world → Takes g a b world event world
  takes_failed a b world event f refused step fails would h = record {
    step = step;
    leads = subst (λ (e : Ending). Ends g a b e world (intended_world world event) world) (sym refused) (ends_failed a b world (intended_world world event) f fails would h);
  }

  -- an event that was committed: it leads to the world that its report says
  pub takes_made : (a b : S) (world kept : World) (event : Event) (f : Tables → Tables) → HasTables g a → Makes g f a b → IsStep world event kept → Holds g b kept → Takes g a b world event kept
  takes_made a b world kept event f s m step h =
      let is = reports_are_true world event kept step in
      record {
        step = step;
        leads = subst (λ (w : World). Leads g a b w (bound_after world event)) (sym is)
            (ends_made a b (ending_of world event) world (intended_world world event) f s m (subst (λ (w : World). Holds g b w) is h));
      }

  -- after calls that only read
  pub takes_then : (a b c : S) (world kept : World) (event : Event) → Leads g a b world (λ bound. bound) → Takes g b c world event kept → Takes g a c world event kept
  takes_then a b c world kept event p q = record { step = q.step; leads = still_then a b c world kept (bound_after world event) p q.leads }

  -- a message with this answer
  pub gives_takes : (a b : S) (world : World) (e : Exchange) (verdict given : Answer) → judgement world e ≡ Some verdict → e.given ≡ Some given → IsExchange world e (after world (Some given))
      → Gives g a b world verdict given → Takes g a b world (exchanged e) (after world (Some given))
  gives_takes a b world e verdict given is gave step p = record {
    step = step;
    leads = subst (λ (v : Option Answer). Ends g a b (answer_ending world v) world (after world (judgement world e)) (after world (Some given))) (sym gave)
        (subst (λ (v : Option Answer). Ends g a b (answer_ending world (Some given)) world (after world v) (after world (Some given))) (sym is) p);
  }

  -- the events of a run, and one more event
  pub run_takes : (a b c : S) (world mid kept : World) (events : List Event) (event : Event) → Run world events mid → Leads g a b mid (bound_of_run world events) → Takes g b c mid event kept
      → Leads g a c kept (bound_of_run world (events ++ event ∷ []))
  run_takes a b c world mid kept events event run p q = record {
    holds = q.leads.holds;
    left = λ bound was. subst (IsBoundedBy g c) (sym (one_event_more world mid events event bound run)) (q.leads.left (bound_of_run world events bound) (p.left bound was));
  }

  -- ---- contracts

  pub reads_none : (a : S) (P : World → Type 0) → (IsHonest g a → (world : World) → Holds g a world → P world) → Reads g a a P
  reads_none a P each = record { same = moves_none g a; adds = nothing_none g a; each = each }

  -- a call that only reads leads from a world to itself
  pub reads_lead : (a b : S) (P : World → Type 0) (world : World) → Reads g a b P → Holds g a world → Leads g a b world (λ bound. bound)
  reads_lead a b P world r h = leads_still a b world r.same r.adds h

  -- a weaker claim about each world
  pub from_weaker : (a b : S) (P Q : World → Type 0) → ((world : World) → P world → Q world) → From g a b P → From g a b Q
  from_weaker a b P Q all p = record { honest = p.honest; each = λ k world h. all world (p.each k world h) }
