-- What a server did, put together from its calls.
use Rattle.std.specs.Prelude.{Bool, false, true, ⊤, OnOk}
use Rattle.std.proofs.Common.{None, Option, Some, Result, Ok, Err, IfOk, OnErr, ◌≡◌, ◌∙◌, ◌⊎◌, ◌≤◌, ◌+◌, inl, inr, ℕ, List, [], ◌∷◌, ◌++◌, refl, sym, ap, subst, arith}
use Rattle.std.proofs.lemmas.Grind.{flat_map-append}
use Rattle.std.proofs.lemmas.List.{append-nil}
use Rattle.std.proofs.lemmas.List.Sums.{sum_by-append}
use Rattle.store.specs.declared.state.State.{Ghosts}
use Rattle.policy.specs.declared.policies.Policy.{Policy}
use Rattle.model.specs.World.{World}
use Rattle.model.specs.Steps.{Event}
use Rattle.refinement.specs.Left.{From, Reads}
use Rattle.refinement.specs.Representation.{Holds}
use Rattle.refinement.proofs.Leading.{from_weaker, leads_none, reads_lead}
use Rattle.refinement.proofs.ReadOnly.{reads_same, reads_then}
use Rattle.store.specs.Shown.{AddsNothing, Moves}
use Rattle.sockets.specs.declared.queue.Caller.{Caller}
use Rattle.sockets.specs.declared.queue.Caller.TheVariants as from
use Rattle.operator.specs.Works.{Works, steps_of}
use Rattle.operator.proofs.Working.{still_kept, steps_then, still_steps, then_kept, works_still, works_then}
use Rattle.machine.specs.declared.machine.Machine as machine
pub use Rattle.machine.proofs.Called.{calls_append, one_idle, one_seen, seen_append}
use Rattle.server.specs.declared.outcomes.Outcome.{Outcome}
use Rattle.server.specs.declared.outcomes.Outcome.TheVariants.{Unchanged}
use Rattle.machine.specs.Observations.{Observation, Talk, called, finished, sent, talked, timed, waited}
use Rattle.control.specs.Replies.{status_code}
use Rattle.control.specs.declared.status.Status.{Status}
use Rattle.desk.specs.Asking.{setting_of}
use Rattle.model.specs.Steps.{Run}
use Rattle.service.specs.declared.ends.Served.{Served}
use Rattle.clients.specs.declared.client.Client as sockets
use Rattle.faults.specs.declared.faults.Fault.{Fault}
use Rattle.outbox.specs.declared.operator_stream.OperatorStream.{OperatorStream}
use Rattle.server.specs.Commands.{AreReadings, AreSent, IsAnswered, IsReplyBegun, IsMomentOf, IsReceived, IsClean, IsEnded, IsGoneOn, IsHeld, IsReplied, IsRequestDone, is_stopped, became_of, operator_in, policy_after}
use Rattle.server.specs.declared.waiting.Waiting.{Waiting}
use Rattle.server.specs.Jobs.{Reason, for_caller, goes_on, ends, Job, ServerState, seen_before, seen_for, IsClientServed, IsTalk, IsTurn, ServesNothing, IsFor, AreJobs, AreStopped, HasFinished, first_state, first_turn, turn_in, state_after, state_left, server_state, waiting_after, Call, idles, observes, seen_in, Calls, Converses, Tidies, Helps, Serves, ServesMore, ServesClean}
use Rattle.transfers.specs.Transfers.{IsNextPart, IsNumberOf, IsOwedNothing, IsPartSent, LeavesRest, Owed, TakesOut}
use Rattle.downloads.specs.declared.download.Download.{Download}

-- ---- what is observed of a machine

-- a moment, or none, is a reading
pub moment_read : (named : Option ℕ) (now : ℕ) (seen : List Observation) → IsMomentOf named now seen → AreReadings seen
moment_read (Some at) now seen is = subst AreReadings (sym is.1) tt
moment_read None now seen is = subst AreReadings (sym is) tt

-- calls of which nothing was observed
pub none_read : (calls : List Call) → seen_in calls ≡ [] → AreReadings (seen_in calls)
none_read calls none = subst AreReadings (sym none) tt

module _ {M : Type 0} (m : machine.Ghosts M) where
  -- the moment that a command does not name
  pub moment_timed : (u v : M) (r : Result ℕ Fault) → IfOk r (λ now. m.observed u v (timed now)) → IfOk r (λ now. (calls : List Call) × Calls m u calls v × IsMomentOf None now (seen_in calls))
  moment_timed u v (Ok now) h = (observes (timed now) ∷ [], one_seen m u v (timed now) h, refl)
  moment_timed u v (Err e) h = tt

  pub moment_untimed : (u v : M) (r : Result ℕ Fault) → OnErr r (m.idled u v) → OnErr r ((calls : List Call) × Calls m u calls v × (seen_in calls ≡ []))
  moment_untimed u v (Ok now) i = tt
  moment_untimed u v (Err e) i = (idles ∷ [], one_idle m u v i, refl)

  -- bytes that were sent to an operator, or not
  pub sent_or_not : (u v : M) (r : Result ⊤ Fault) (operator : OperatorStream) (bytes : List ℕ) → OnOk r (m.observed u v (sent operator bytes)) → OnErr r (m.idled u v)
      → (calls : List Call) × Calls m u calls v × ((seen_in calls ≡ sent operator bytes ∷ []) ⊎ (seen_in calls ≡ []))
  sent_or_not u v (Ok done) operator bytes a i = (observes (sent operator bytes) ∷ [], one_seen m u v (sent operator bytes) a, inl refl)
  sent_or_not u v (Err e) operator bytes a i = (idles ∷ [], one_idle m u v i, inr refl)

  -- pieces were sent to an operator, and he was waited for
  pub held_for : (u v w : M) (operator : OperatorStream) (seconds : ℕ) (closed : Bool) (calls : List Call) → Calls m u calls v → AreSent operator (seen_in calls) → m.observed v w (waited operator seconds closed)
      → (all : List Call) × Calls m u all w × IsHeld operator seconds closed (seen_in all)
  held_for u v w operator seconds closed calls made pieces waits =
      let wait = waited operator seconds closed in
      let seen = seen_append calls (observes wait ∷ []) ∙ ap (λ (l : List Observation). l ++ wait ∷ []) pieces.2 in
      (calls ++ observes wait ∷ [], calls_append m u v w calls (observes wait ∷ []) made (one_seen m v w wait waits), (pieces.0, pieces.1, seen))

  -- pieces were sent to an operator, and then the end of his reply, or not
  pub ended_or_not : (u v w : M) (r : Result ⊤ Fault) (operator : OperatorStream) (status : Status) (calls : List Call) → Calls m u calls v → AreSent operator (seen_in calls)
      → OnOk r (m.observed v w (finished operator (status_code status ∷ []))) → OnErr r (m.idled v w) → (all : List Call) × Calls m u all w × IsReplied operator status (seen_in all)
  ended_or_not u v w (Ok done) operator status calls made pieces a i =
      let end = finished operator (status_code status ∷ []) in
      let seen = seen_append calls (observes end ∷ []) ∙ ap (λ (l : List Observation). l ++ end ∷ []) pieces.2 in
      (calls ++ observes end ∷ [], calls_append m u v w calls (observes end ∷ []) made (one_seen m v w end a), inr (inr (pieces.0, pieces.1, seen)))
  ended_or_not u v w (Err e) operator status calls made pieces a i =
      let seen = seen_append calls (idles ∷ []) ∙ append-nil (seen_in calls) ∙ pieces.2 in
      (calls ++ idles ∷ [], calls_append m u v w calls (idles ∷ []) made (one_idle m v w i), inr (inl (pieces.0, pieces.1, seen)))

  module _ {S : Type 0} (g : Ghosts S) where
    -- ---- for one caller

    -- no call of the store
    pub from_idle : (IsOwn : World → List Observation → List Event → World → Type 0) (a : S) (u v : M) (calls : List Call) → Calls m u calls v → ((world : World) → IsOwn world (seen_in calls) [] world)
        → From g a a (λ world. Helps m g IsOwn a a u v world)
    from_idle IsOwn a u v calls made own = record {
      honest = λ k. k;
      each = λ honest world h.
          let lead = leads_none g a world h in
          record {
            calls = calls;
            made = made;
            done = works_still g a a world lead;
            own = subst (λ (w : World). IsOwn world (seen_in calls) (steps_of (works_still g a a world lead).works) w) (sym (still_kept g a a world lead))
                (subst (λ (steps : List Event). IsOwn world (seen_in calls) steps world) (sym (still_steps g a a world lead)) (own world));
          };
    }

    -- calls of the store that only read, of one that held this world
    pub helps_read : (IsOwn : World → List Observation → List Event → World → Type 0) (a b : S) (u v : M) (calls : List Call) (P : World → Type 0) (world : World) → Holds g a world → Calls m u calls v → Reads g a b P
        → IsOwn world (seen_in calls) [] world → Helps m g IsOwn a b u v world
    helps_read IsOwn a b u v calls P world h made reads own =
        let lead = reads_lead g a b P world reads h in
        record {
          calls = calls;
          made = made;
          done = works_still g a b world lead;
          own = subst (λ (w : World). IsOwn world (seen_in calls) (steps_of (works_still g a b world lead).works) w) (sym (still_kept g a b world lead))
              (subst (λ (steps : List Event). IsOwn world (seen_in calls) steps world) (sym (still_steps g a b world lead)) own);
        }

    -- calls of the store that only read, and what they found
    pub from_found : (IsOwn : World → List Observation → List Event → World → Type 0) (a b : S) (u v : M) (calls : List Call) (P : World → Type 0) → Calls m u calls v → Reads g a b P
        → ((world : World) → P world → IsOwn world (seen_in calls) [] world) → From g a b (λ world. Helps m g IsOwn a b u v world)
    from_found IsOwn a b u v calls P made reads own = record { honest = reads.same.was_honest; each = λ honest world h. helps_read IsOwn a b u v calls P world h made reads (own world (reads.each honest world h)) }

    -- calls of the store that only read
    pub from_read : (IsOwn : World → List Observation → List Event → World → Type 0) (a b : S) (u v : M) (calls : List Call) (P : World → Type 0) → Calls m u calls v → Reads g a b P
        → ((world : World) → IsOwn world (seen_in calls) [] world) → From g a b (λ world. Helps m g IsOwn a b u v world)
    from_read IsOwn a b u v calls P made reads own = from_found IsOwn a b u v calls P made reads (λ world found. own world)

    -- a call after them that leaves the tables, as the one that asks for the room of the contents
    pub also_room : (a b c : S) (P : World → Type 0) → Reads g a b P → Moves g (λ t. t) b c → AddsNothing g b c → Reads g a c (λ _. ⊤)
    also_room a b c P p same adds = reads_then g a b c P (λ _. ⊤) (λ _. ⊤) (λ world laws before here. tt) p (reads_same g b c ⊤ same adds (λ honest. tt))

    -- calls of the store, whose steps are the caller's
    pub from_done : (IsOwn : World → List Observation → List Event → World → Type 0) (a b : S) (u v : M) (calls : List Call) (P : World → Type 0) → Calls m u calls v
        → ((world : World) → P world → (done : Works g a b world) × IsOwn world (seen_in calls) (steps_of done.works) done.kept) → From g a b P → From g a b (λ world. Helps m g IsOwn a b u v world)
    from_done IsOwn a b u v calls P made own p =
        from_weaker g a b P _ (λ world d. let done = own world d in record { calls = calls; made = made; done = done.0; own = done.1 }) p

    -- calls of the machine before, whose results are not worked with
    pub from_before : (IsOwn : World → List Observation → List Event → World → Type 0) (a b : S) (u v w : M) (calls : List Call) → Calls m u calls v → seen_in calls ≡ []
        → From g a b (λ world. Helps m g IsOwn a b v w world) → From g a b (λ world. Helps m g IsOwn a b u w world)
    from_before IsOwn a b u v w calls made none p =
        from_weaker g a b _ _
        (λ world h. record {
          calls = calls ++ h.calls;
          made = calls_append m u v w calls h.calls made h.made;
          done = h.done;
          own = subst (λ (l : List Observation). IsOwn world l (steps_of h.done.works) h.done.kept) (sym (seen_append calls h.calls ∙ ap (λ (l : List Observation). l ++ seen_in h.calls) none)) h.own;
        })
        p

    pub from_own : (P Q : World → List Observation → List Event → World → Type 0) (a b : S) (u v : M) → ((world : World) (l : List Observation) (steps : List Event) (kept : World) → P world l steps kept → Q world l steps kept)
        → From g a b (λ world. Helps m g P a b u v world) → From g a b (λ world. Helps m g Q a b u v world)
    from_own P Q a b u v f p = from_weaker g a b _ _ (λ world h. record { calls = h.calls; made = h.made; done = h.done; own = f world (seen_in h.calls) (steps_of h.done.works) h.done.kept h.own }) p

    -- a request was received, its reply begun, it was done, and its reply perhaps ended
    pub from_served : (policy : Policy) (busy : Bool) (operator : OperatorStream) (body : List ℕ) (ended : Result Outcome Fault) (a b : S) (u v w x y : M) (before begin after : List Call)
        → Calls m u before v → IsReceived operator body (seen_in before) → Calls m v begin w → IsReplyBegun operator (seen_in begin) → Calls m x after y → IsEnded operator ended (seen_in after)
        → From g a b (λ world. Helps m g (IsRequestDone policy busy operator body ended) a b w x world) → From g a b (λ world. Helps m g (IsAnswered policy busy operator (became_of ended)) a b u y world)
    from_served policy busy operator body ended a b u v w x y before begin after first read started begun last replied p =
        from_weaker g a b _ _
        (λ (world : World) (h : Helps m g (IsRequestDone policy busy operator body ended) a b w x world). record {
          calls = before ++ begin ++ h.calls ++ after;
          made = calls_append m u x y (before ++ begin ++ h.calls) after (calls_append m u w x (before ++ begin) h.calls (calls_append m u v w before begin first started) h.made) last;
          done = h.done;
          own = inl (record {
            body = body;
            ended = ended;
            asked = seen_in before;
            begin = seen_in begin;
            own = seen_in h.calls;
            end = seen_in after;
            are = seen_append (before ++ begin ++ h.calls) after ∙ ap (λ (l : List Observation). l ++ seen_in after) (seen_append (before ++ begin) h.calls ∙ ap (λ (l : List Observation). l ++ seen_in h.calls) (seen_append before begin));
            read = read;
            begun = begun;
            done = h.own;
            replied = replied;
            made = refl;
          });
        })
        p

    -- ---- a turn

    -- the store was tidied, and then there was a talk with the client at the machine's moment, after which something may be left
    pub turn_served : (policy : Policy) (client : sockets.Client) (owed owes : List Owed) (now number : ℕ) (talk : Talk) (served : Served) (later : Option Download) (after : List Observation) (a b c : S) (u v : M) (calls : List Call)
        → From g a b (Tidies g a b) → Calls m u calls v → seen_in calls ≡ timed now ∷ talked client talk served ∷ after → IsNumberOf client number → LeavesRest client number later owed owes after
        → From g b c (λ world. Converses g (setting_of policy now) talk served later b c world) → From g a c (λ world. Helps m g (IsTurn policy client owed owes) a c u v world)
    turn_served policy client owed owes now number talk served later after a b c u v calls p made seen of_client left q = record {
      honest = λ k. p.honest (q.honest k);
      each = λ honest world h.
          let before = p.each (q.honest honest) world h in
          let turn = q.each honest before.0.kept before.0.leads.holds in
          let done = works_then g a b c world before.0 turn.done in
          let same : before.0.kept ≡ world = subst (λ (l : List Event). Run world l before.0.kept) before.1 before.0.run in
          let steps = steps_then g a b c world before.0 turn.done ∙ ap (λ (l : List Event). l ++ steps_of turn.done.works) before.1 in
          let is = subst (λ (w : World). IsTalk (setting_of policy now) talk served later w (steps_of turn.done.works) turn.done.kept) same turn.is in
          let kept = subst (λ (w : World). IsTalk (setting_of policy now) talk served later world (steps_of turn.done.works) w) (sym (then_kept g a b c world before.0 turn.done)) is in
          record {
            calls = calls;
            made = made;
            done = done;
            own = inr (now, number, talk, served, later, after, seen, subst (λ (l : List Event). IsTalk (setting_of policy now) talk served later world l done.kept) (sym steps) kept, of_client, left);
          };
    }

    -- the store was tidied, and no message served
    pub turn_unserved : (policy : Policy) (client : sockets.Client) (owed : List Owed) (a b : S) (u v : M) (calls : List Call) → From g a b (Tidies g a b) → Calls m u calls v → ServesNothing client (seen_in calls)
        → From g a b (λ world. Helps m g (IsTurn policy client owed owed) a b u v world)
    turn_unserved policy client owed a b u v calls p made few = from_weaker g a b _ _ (λ world t. record { calls = calls; made = made; done = t.0; own = inl (refl, t.1, few) }) p

    -- a client's job leaves the server as it is, but for what is owed
    pub from_client : (s : ServerState) (client : sockets.Client) (owes : List Owed) (a b : S) (u v : M) → From g a b (λ world. Helps m g (IsClientServed s.policy client s.owed owes) a b u v world)
        → From g a b (λ world. Helps m g (IsFor s (for_caller (from.Client client)) Unchanged owes) a b u v world)
    from_client s client owes a b u v p = from_own (IsClientServed s.policy client s.owed owes) _ a b u v (λ world l steps kept own. (own, refl)) p

    -- a turn of a client to whom nothing is owed
    pub client_turn : (policy : Policy) (client : sockets.Client) (owed owes : List Owed) (a b : S) (u v : M) → IsOwedNothing client owed → From g a b (λ world. Helps m g (IsTurn policy client owed owes) a b u v world)
        → From g a b (λ world. Helps m g (IsClientServed policy client owed owes) a b u v world)
    client_turn policy client owed owes a b u v none p = from_own (IsTurn policy client owed owes) (IsClientServed policy client owed owes) a b u v (λ world l steps kept own. inl (none, own)) p

    -- the next part for a client to whom something is owed
    pub client_part : (policy : Policy) (client : sockets.Client) (due : Owed) (owed others owes : List Owed) (a b : S) (u v w : M) (first : List Call) → client.number ≡ Some due.number → TakesOut due owed others → Calls m u first v → seen_in first ≡ []
        → Reads g a b (λ world. (calls : List Call) × Calls m v calls w × IsPartSent client due others owes world (seen_in calls)) → From g a b (λ world. Helps m g (IsClientServed policy client owed owes) a b u w world)
    client_part policy client due owed others owes a b u v w first number taken made none reads = record {
      honest = reads.same.was_honest;
      each = λ honest world h.
          let part = reads.each honest world h in
          let seen = seen_append first part.0 ∙ ap (λ (l : List Observation). l ++ seen_in part.0) none in
          let own = subst (λ (l : List Observation). IsPartSent client due others owes world l) (sym seen) part.2 in
          helps_read (IsClientServed policy client owed owes) a b u w (first ++ part.0) _ world h (calls_append m u v w first part.0 made part.1) reads (inr ((due, number, others, taken, own), refl));
    }

    -- ---- jobs

    -- jobs, and more jobs from the world to which they led, of a server that goes by what they left
    are_append : (s : ServerState) (world mid kept : World) (jobs more : List Job) → AreJobs s world jobs mid → AreJobs (state_left s jobs) mid more kept → AreJobs s world (jobs ++ more) kept
    are_append s world mid kept [] more p q = subst (λ (w : World). AreJobs s w more kept) p q
    are_append s world mid kept (job ∷ jobs) more p q = (p.0, p.1, p.2, are_append (state_after s job) p.0 mid kept jobs more p.3 q)

    left_append : (s : ServerState) (jobs more : List Job) → state_left s (jobs ++ more) ≡ state_left (state_left s jobs) more
    left_append s [] more = refl
    left_append s (job ∷ jobs) more = left_append (state_after s job) jobs more

    stopped_append : (stopped : Bool) (jobs more : List Job) → AreStopped false jobs → AreStopped stopped more → AreStopped stopped (jobs ++ more)
    stopped_append stopped [] more p q = q
    stopped_append stopped (job ∷ []) [] p q = p ∙ sym q
    stopped_append stopped (job ∷ []) (next ∷ more) p q = (p, q)
    stopped_append stopped (job ∷ next ∷ jobs) more p q = (p.0, stopped_append stopped (next ∷ jobs) more p.1 q)

    -- one job, after what was observed before it
    job_served : (s : ServerState) (reason : Reason) (outcome : Outcome) (owes : List Owed) (a b : S) (u v w : M) (first : List Call) (before after : ℕ) → Calls m u first v → seen_in first ≡ seen_before reason
        → after ≤ before + turn_in reason → From g a b (λ world. Helps m g (IsFor s reason outcome owes) a b v w world)
        → From g a b (λ world. ServesMore m g s a b u w world before after (record { policy = policy_after s.policy outcome; waiting = waiting_after s.waiting reason outcome; owed = owes }) (is_stopped outcome))
    job_served s reason outcome owes a b u v w first before after made seen few p =
        from_weaker g a b _ _
        (λ (world : World) (h : Helps m g (IsFor s reason outcome owes) a b v w world).
        let job : Job = record { reason = reason; seen = seen_in h.calls; steps = steps_of h.done.works; outcome = outcome; owes = owes } in
        record {
          jobs = job ∷ [];
          serves = record {
            calls = first ++ h.calls;
            made = calls_append m u v w first h.calls made h.made;
            done = h.done;
            are_jobs = (h.done.kept, h.own, h.done.run, refl);
            seen = seen_append first h.calls ∙ ap (λ (l : List Observation). l ++ seen_in h.calls) seen ∙ sym (append-nil (seen_for job));
            steps = sym (append-nil (steps_of h.done.works));
          };
          few = omega (arith, few);
          is_left = refl;
          are_stopped = refl;
        })
        p

    -- a caller's job
    pub serves_one : (s : ServerState) (caller : Caller) (outcome : Outcome) (owes : List Owed) (a b : S) (u v w : M) (before after : ℕ) → m.observed u v (called caller) → after ≤ before + first_turn caller
        → From g a b (λ world. Helps m g (IsFor s (for_caller caller) outcome owes) a b v w world)
        → From g a b (λ world. ServesMore m g s a b u w world before after (record { policy = policy_after s.policy outcome; waiting = waiting_after s.waiting (for_caller caller) outcome; owed = owes }) (is_stopped outcome))
    serves_one s caller outcome owes a b u v w before after call few p =
        job_served s (for_caller caller) outcome owes a b u v w (observes (called caller) ∷ []) before after (one_seen m u v (called caller) call) refl few p

    -- no job
    pub serves_none : (s : ServerState) (a : S) (u v : M) (calls : List Call) (count : ℕ) → Calls m u calls v → seen_in calls ≡ [] → From g a a (λ world. ServesMore m g s a a u v world count count s false)
    serves_none s a u v calls count made none = record {
      honest = λ k. k;
      each = λ honest world h.
          let lead = leads_none g a world h in
          record {
            jobs = [];
            serves = record {
              calls = calls;
              made = made;
              done = works_still g a a world lead;
              are_jobs = still_kept g a a world lead;
              seen = none;
              steps = still_steps g a a world lead;
            };
            few = omega arith;
            is_left = refl;
            are_stopped = refl;
          };
    }

    -- jobs, and more jobs
    serves_then : (s : ServerState) (a b c : S) (u v w : M) (world : World) (jobs more : List Job) (p : Serves m g s a b u v world jobs)
        → Serves m g (state_left s jobs) b c v w p.done.kept more → Serves m g s a c u w world (jobs ++ more)
    serves_then s a b c u v w world jobs more p q = record {
      calls = p.calls ++ q.calls;
      made = calls_append m u v w p.calls q.calls p.made q.made;
      done = works_then g a b c world p.done q.done;
      are_jobs = subst (λ (w : World). AreJobs s world (jobs ++ more) w) (sym (then_kept g a b c world p.done q.done))
          (are_append s world p.done.kept q.done.kept jobs more p.are_jobs q.are_jobs);
      seen = seen_append p.calls q.calls ∙ rw (p.seen, q.seen) (sym (flat_map-append seen_for jobs more));
      steps = steps_then g a b c world p.done q.done ∙ rw (p.steps, q.steps) (sym (flat_map-append (λ (job : Job). job.steps) jobs more));
    }

    more_then : (s mid left : ServerState) (stopped : Bool) (a b c : S) (u v w : M) (world : World) (first begun after : ℕ) (p : ServesMore m g s a b u v world first begun mid false)
        → ServesMore m g mid b c v w p.serves.done.kept begun after left stopped → ServesMore m g s a c u w world first after left stopped
    more_then s mid left stopped a b c u v w world first begun after p q =
        let sum = sum_by-append (λ (job : Job). turn_in job.reason) p.jobs q.jobs in
        record {
          jobs = p.jobs ++ q.jobs;
          serves = serves_then s a b c u v w world p.jobs q.jobs p.serves (subst (λ (by : ServerState). Serves m g by b c v w p.serves.done.kept q.jobs) p.is_left q.serves);
          few = let fewer = p.few in let fewest = q.few in omega (arith, fewer, fewest, sum);
          is_left = q.is_left ∙ ap (λ (by : ServerState). state_left by q.jobs) p.is_left ∙ sym (left_append s p.jobs q.jobs);
          are_stopped = stopped_append stopped p.jobs q.jobs p.are_stopped q.are_stopped;
        }

    -- the job of an operator who waits
    gone_on : (s : ServerState) (reason : Reason) (a b : S) (u v : M) (world : World) (count : ℕ) {IsOwn : World → List Observation → List Event → World → Type 0} (h : Helps m g IsOwn a b u v world)
        → seen_before reason ≡ [] → turn_in reason ≡ 0 → IsFor s reason Unchanged s.owed world (seen_in h.calls) (steps_of h.done.works) h.done.kept
        → ServesMore m g s a b u v world count count (record s { waiting = waiting_after s.waiting reason Unchanged }) false
    gone_on s reason a b u v world count h none turn own =
        let job : Job = record { reason = reason; seen = seen_in h.calls; steps = steps_of h.done.works; outcome = Unchanged; owes = s.owed } in
        record {
          jobs = job ∷ [];
          serves = record {
            calls = h.calls;
            made = h.made;
            done = h.done;
            are_jobs = (h.done.kept, own, h.done.run, refl);
            seen = sym (append-nil (seen_for job) ∙ ap (λ (l : List Observation). l ++ seen_in h.calls) none);
            steps = sym (append-nil (steps_of h.done.works));
          };
          few = omega (arith, turn);
          is_left = refl;
          are_stopped = refl;
        }

    -- ---- jobs, while the inspection that somebody waits for finds nothing damaged

    -- jobs after which the same one waits, or nobody
    pub clean_still : (s left : ServerState) (was : Option Waiting) (stopped : Bool) (a b : S) (u v : M) (before after : ℕ) → From g a b (λ world. ServesMore m g s a b u v world before after left stopped)
        → From g a b (λ world. ServesClean m g was was s a b u v world before after left stopped)
    clean_still s left was stopped a b u v before after p = from_weaker g a b _ _ (λ world s clean. (s, clean)) p

    -- jobs, and more jobs
    pub from_serves : (s mid left : ServerState) (one two three : Option Waiting) (stopped : Bool) (a b c : S) (u v w : M) (first begun after : ℕ)
        → From g a b (λ world. ServesClean m g one two s a b u v world first begun mid false) → From g b c (λ world. ServesClean m g two three mid b c v w world begun after left stopped)
        → From g a c (λ world. ServesClean m g one three s a c u w world first after left stopped)
    from_serves s mid left one two three stopped a b c u v w first begun after p q = record {
      honest = λ k. p.honest (q.honest k);
      each = λ honest world h clean.
          let before = p.each (q.honest honest) world h clean in
          let more = q.each honest before.0.serves.done.kept before.0.serves.done.leads.holds before.1 in
          (more_then s mid left stopped a b c u v w world first begun after before.0 more.0, more.1);
    }

    -- jobs, and then calls of the machine of which nothing was observed
    pub from_settled : (s left : ServerState) (one two : Option Waiting) (stopped : Bool) (a b : S) (u v w : M) (calls : List Call) (first after : ℕ) → Calls m v calls w → seen_in calls ≡ []
        → From g a b (λ world. ServesClean m g one two s a b u v world first after left stopped) → From g a b (λ world. ServesClean m g one two s a b u w world first after left stopped)
    from_settled s left one two stopped a b u v w calls first after more none p =
        from_weaker g a b _ _
        (λ world served clean.
        let both : ServesMore m g s a b u v world first after left stopped × IsClean two = served clean in
        let did = both.0 in (
          record {
            jobs = did.jobs;
            serves = record {
              calls = did.serves.calls ++ calls;
              made = calls_append m u v w did.serves.calls calls did.serves.made more;
              done = did.serves.done;
              are_jobs = did.serves.are_jobs;
              seen = seen_append did.serves.calls calls ∙ ap (λ (l : List Observation). seen_in did.serves.calls ++ l) none ∙ append-nil (seen_in did.serves.calls) ∙ did.serves.seen;
              steps = did.serves.steps;
            };
            few = did.few;
            is_left = did.is_left;
            are_stopped = did.are_stopped;
          },
          both.1,
        ))
        p

    -- an inspection that nobody waits for any more, or that goes on
    pub from_gone_on : (policy : Policy) (owed : List Owed) (was : Waiting) (is : Option Waiting) (a b : S) (u v : M) (count : ℕ)
        → From g a b (λ world. was.inspection.damaged ≡ 0 → Helps m g (IsGoneOn was.stream (operator_in is)) a b u v world × IsClean is)
        → From g a b (λ world. ServesClean m g (Some was) is (server_state policy (Some was) owed) a b u v world count count (server_state policy is owed) false)
    from_gone_on policy owed was None a b u v count p = record {
      honest = p.honest;
      each = λ honest world h clean.
          let did = p.each honest world h clean in
          let own = did.0.own in
          (gone_on (server_state policy (Some was) owed) ends a b u v world count did.0 refl refl (own.1, own.0, refl, refl), tt);
    }
    from_gone_on policy owed was (Some is) a b u v count p = record {
      honest = p.honest;
      each = λ honest world h clean.
          let did = p.each honest world h clean in
          let own = did.0.own in (
            subst (λ (who : OperatorStream). ServesMore m g (server_state policy (Some was) owed) a b u v world count count (record { policy = policy; waiting = Some who; owed = owed }) false) (sym own.0)
                (gone_on (server_state policy (Some was) owed) goes_on a b u v world count did.0 refl refl (own.2, own.1, refl, refl)),
            did.1,
          );
    }

    -- ---- the end of a server

    -- a server that an operator has stopped
    pub from_stopped : (policy : Policy) (left : ServerState) (waits : Option Waiting) (most count : ℕ) (operator : OperatorStream) (a b : S) (u v : M)
        → From g a b (λ world. ServesClean m g None waits (first_state policy) a b u v world 0 count left true)
        → From g a b (λ world. (jobs : List Job) × Serves m g (first_state policy) a b u v world jobs × HasFinished most jobs (Ok (record { connections = count; stopped_by = Some operator })))
    from_stopped policy left waits most count operator a b u v p =
        from_weaker g a b _ _
        (λ world served. let s : ServesMore m g (first_state policy) a b u v world 0 count left true = (served tt).0 in (s.jobs, s.serves, ((let few = s.few in omega (arith, few)), s.are_stopped, λ none. absurd (cc)))) p

    -- a server that has served as many connections as it was to serve
    pub from_full : (policy : Policy) (left : ServerState) (waits : Option Waiting) (most count : ℕ) (a b : S) (u v : M) → most ≤ count → From g a b (λ world. ServesClean m g None waits (first_state policy) a b u v world 0 count left false)
        → From g a b (λ world. (jobs : List Job) × Serves m g (first_state policy) a b u v world jobs × HasFinished most jobs (Ok (record { connections = most; stopped_by = None })))
    from_full policy left waits most count a b u v full p =
        from_weaker g a b _ _
        (λ world served. let s : ServesMore m g (first_state policy) a b u v world 0 count left false = (served tt).0 in (s.jobs, s.serves, ((let few = s.few in omega (arith, few, full)), s.are_stopped, λ none. refl))) p

    -- a server that failed
    pub from_failed : (policy : Policy) (left : ServerState) (waits : Option Waiting) (most count : ℕ) (fault : Fault) (a b : S) (u v : M) → From g a b (λ world. ServesClean m g None waits (first_state policy) a b u v world 0 count left false)
        → From g a b (λ world. (jobs : List Job) × Serves m g (first_state policy) a b u v world jobs × HasFinished most jobs (Err fault))
    from_failed policy left waits most count fault a b u v p =
        from_weaker g a b _ _ (λ world served. let s : ServesMore m g (first_state policy) a b u v world 0 count left false = (served tt).0 in (s.jobs, s.serves, s.are_stopped)) p
