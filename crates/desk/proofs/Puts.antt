-- Requests to upload an object: denied before its content is read, or answered by all of it.
use Rattle.desk.proofs.Prelude.{◌≡◌, ◌∙◌, ℕ, Bool, false, true, cond, List, ◌++◌, length, Result, Ok, Err, is_ok, is_err, refl, sym, ap, subst, append-nil, arith, IfOk, nil_from_length, Ghosts, X2, World, PutForm, Answer, Denial, Plan, by_rule, receives, put_verdict, content_verdict, store_refusal, From, Reads, reads_lead, BodyFault, Receipt, ReceiveFault, Differs, Reply, HasRead, IsLeftBy, IsLeftAfter, IsReplyOf, IsUserOf, case_repo, case_seen, AnswersBy, AnswersIf, AnswersRequest, IsAnsweredAs, verdict_by, given_in, is_refused, MatchBool, OnOk, ShowsIf, RepliesReceived, Receives, object_from, answer_of}
use Rattle.std.specs.Prelude.{IfErr}
use Rattle.std.proofs.lemmas.Bool.{true≢false}
use Rattle.names.specs.declared.bodies.Body.{Ghosts as BodyGhosts}
use Rattle.model.specs.Callers.{Caller}
use Rattle.refinement.specs.Left.{Gives}
use Rattle.desk.specs.Contents.{IsReadOut}
use Rattle.desk.specs.declared.cases.Case.{Case}
use Rattle.desk.specs.declared.receiving.ReceiveFault.TheVariants as fault
use Rattle.desk.specs.declared.receiving.Receipt.TheVariants.{Stored}
use Rattle.desk.proofs.Arriving.{kept_refused}
use Rattle.desk.proofs.Early.{answered_then}
use Rattle.desk.proofs.Told.{refused_is, told, told_refusal}

-- no content is left, so the bytes that were read are all
all_bytes : (bytes more : List ℕ) (left : ℕ) → length more ≡ left → left ≡ 0 → bytes ≡ bytes ++ more
all_bytes bytes more left is none = sym (ap (λ (rest : List ℕ). bytes ++ rest) (nil_from_length more (is ∙ none)) ∙ append-nil bytes)

-- a plan to receive an upload is no denial
granted_not : {plan : Result Plan Denial} {name : List ℕ} → plan ≡ Ok (receives name) → is_err plan ≡ true → ⊥
granted_not is refused = true≢false (sym refused ∙ ap is_err is)

-- ---- an upload whose plan is to receive these bytes

module _ {S : Type 0} (g : Ghosts S) (old new : S) (world : World) (repo name bytes : List ℕ) (left : ℕ) {plan : Result Plan Denial} (is : plan ≡ Ok (receives name)) where
  -- the content was cut off
  put_cut : (cut : BodyFault) → Receives g old new world repo name bytes left (Err (fault.Body cut)) → IsAnsweredAs g true old new world repo plan bytes left (Err cut)
  put_cut cut received = record { answers = λ more len. received; in_time = λ put. ap is_ok is; kept = λ put. tt; tables = λ more denied. absurd (granted_not is (denied refl)) }

  by_plan : (more : List ℕ) (reply : Reply) → AnswersBy g old new world (content_verdict (object_from repo name (bytes ++ more))) reply → AnswersBy g old new world (verdict_by world repo plan (bytes ++ more)) reply
  by_plan more reply done = subst (λ p. AnswersBy g old new world (verdict_by world repo p (bytes ++ more)) reply) (sym is) done

  -- the store refused
  put_refused : (f : _) (reply : Reply) → IsReplyOf reply store_refusal → Receives g old new world repo name bytes left (Err (fault.Store f)) → IsAnsweredAs g true old new world repo plan bytes left (Ok reply)
  put_refused f reply shows received = record {
    answers = λ more len. by_plan more reply (told_refusal g old new world (content_verdict (object_from repo name (bytes ++ more))) reply shows (received.0 more (len refl)));
    in_time = λ put other. absurd (true≢false (sym (refused_is store_refusal reply shows) ∙ other));
    kept = λ put refused. received.1;
    tables = λ more denied. absurd (granted_not is (denied refl));
  }

  -- all of the content was read
  put_done : (receipt : Receipt) (reply : Reply) → left ≡ 0 → reply.body_read ≡ true → AnswersBy g old new world (content_verdict (object_from repo name bytes)) reply → IsAnsweredAs g true old new world repo plan bytes left (Ok reply)
  put_done receipt reply none read done = record {
    answers = λ more len. by_plan more reply (subst (λ (b : List ℕ). AnswersBy g old new world (content_verdict (object_from repo name b)) reply) (all_bytes bytes more left (len refl) none) done);
    in_time = λ put other. whole reply.body_read read;
    kept = λ put refused some. absurd (omega (arith, none, some));
    tables = λ more denied. absurd (granted_not is (denied refl));
  }
    where
      whole : (v : Bool) → v ≡ true → MatchBool v ((name : List ℕ) × (plan ≡ Ok (receives name)) × (left ≡ 0)) (is_err plan ≡ true)
      whole true e = (name, is, none)
      whole false e = absurd (true≢false (sym e))

  -- the reply shows X2, or memory ran out for it
  differs : (reply : Reply) → content_verdict (object_from repo name bytes) ≡ Err (by_rule X2) → ShowsIf (Err (by_rule X2)) reply → Gives g old new world (Err (by_rule X2)) (Err (by_rule X2))
      → AnswersBy g old new world (content_verdict (object_from repo name bytes)) reply
  differs reply given shows gives =
      let done : AnswersBy g old new world (Err (by_rule X2)) reply = record { shows = shows; gives = at (is_refused reply) } in
      subst (λ (v : Answer). AnswersBy g old new world v reply) (sym given) done
    where
      at : (v : Bool) → Gives g old new world (Err (by_rule X2)) (cond v store_refusal (Err (by_rule X2)))
      at true = kept_refused g old new world (Err (by_rule X2)) gives
      at false = gives

  -- the reply to what was received
  pub put_by : (received : Result Receipt ReceiveFault) (r : Result Reply BodyFault) → OnOk received (left ≡ 0) → IfOk r (λ reply. reply.body_read ≡ true) → Receives g old new world repo name bytes left received → RepliesReceived received r → IsAnsweredAs g true old new world repo plan bytes left r
  put_by (Ok Stored) (Ok reply) none read done replies =
      let o = object_from repo name bytes in
      put_done Stored reply none read (told g old new world (content_verdict o) reply (subst (IsReplyOf reply) (sym done.0) (replies o)) done.1)
  put_by (Ok Differs) (Ok reply) none read done replies =
      put_done Differs reply none read (differs reply done.0 replies (subst (λ (a : Answer). Gives g old new world a a) done.0 done.1))
  put_by (Err (fault.Store f)) (Ok reply) none read done replies = put_refused f reply replies done
  put_by (Err (fault.Body f)) (Err cut) none read done replies = subst (λ c. IsAnsweredAs g true old new world repo plan bytes left (Err c)) (sym replies) (put_cut f done)
  put_by (Ok Stored) (Err cut) none read done replies = absurd replies
  put_by (Ok Differs) (Err cut) none read done replies = absurd replies
  put_by (Err (fault.Store f)) (Err cut) none read done replies = absurd replies
  put_by (Err (fault.Body f)) (Ok reply) none read done replies = absurd replies

-- ---- after the question whether the object may be uploaded

-- the content was read out if a reply says so
whole_by : {B : Type 0} (b : BodyGhosts B) (before after : B) (received : Result Receipt ReceiveFault) (r : Result Reply BodyFault) → OnOk received (IsReadOut b before after) → RepliesReceived received r
    → IfOk r (λ reply. is_refused reply ≡ false → reply.body_read ≡ true → true ≡ true → b.size after ≡ 0)
whole_by b before after (Ok receipt) (Ok reply) out replies = λ other read put. out.whole
whole_by b before after (Err (fault.Store f)) (Ok reply) out replies = λ other read put. absurd (true≢false (sym (refused_is store_refusal reply replies) ∙ other))
whole_by b before after (Err (fault.Body f)) (Ok reply) out replies = absurd replies
whole_by b before after received (Err cut) out replies = tt

good_by : {B : Type 0} (b : BodyGhosts B) (before after : B) (received : Result Receipt ReceiveFault) (r : Result Reply BodyFault) → OnOk received (IsReadOut b before after) → IfErr received (IsLeftAfter b before after) → RepliesReceived received r
    → OnOk r (b.failed after ≡ b.failed before)
good_by b before after (Ok receipt) (Ok reply) out faulty replies = out.good
good_by b before after (Err (fault.Store f)) (Ok reply) out faulty replies = faulty
good_by b before after (Err (fault.Body f)) (Ok reply) out faulty replies = absurd replies
good_by b before after received (Err cut) out faulty replies = tt

faultyby : {B : Type 0} (b : BodyGhosts B) (before after : B) (received : Result Receipt ReceiveFault) (r : Result Reply BodyFault) → IfErr received (IsLeftAfter b before after) → RepliesReceived received r → IfErr r (IsLeftBy b before after)
faultyby b before after received (Ok reply) faulty replies = tt
faultyby b before after (Err (fault.Body f)) (Err cut) faulty replies = subst (IsLeftBy b before after) (sym replies) faulty
faultyby b before after (Err (fault.Store f)) (Err cut) faulty replies = absurd replies
faultyby b before after (Ok Stored) (Err cut) faulty replies = absurd replies
faultyby b before after (Ok Differs) (Err cut) faulty replies = absurd replies

read_left : {B : Type 0} (b : BodyGhosts B) (before after : B) (received : Result Receipt ReceiveFault) → OnOk received (IsReadOut b before after) → OnOk received (b.size after ≡ 0)
read_left b before after (Ok receipt) out = out.whole
read_left b before after (Err e) out = tt

module _ {S B : Type 0} {g : Ghosts S} {b : BodyGhosts B} {old mid new : S} {before after : B} {size : ℕ} {bytes repo : List ℕ} {r : Result Reply BodyFault} (case : Case) (asked : PutForm)
    (received : Result Receipt ReceiveFault) where
  -- the content was received
  pub received_put : size ≡ b.size before → Reads g old mid (λ world. (who : Caller) → IsUserOf case who → put_verdict (case_seen world case who) size asked ≡ Ok (receives asked.name))
      → HasRead b before after bytes → repo ≡ (case_repo case).name → From g mid new (λ world. Receives g mid new world repo asked.name bytes (b.size after) received)
      → OnOk received (IsReadOut b before after) → IfErr received (IsLeftAfter b before after) → RepliesReceived received r → IfOk r (λ reply. reply.body_read ≡ true)
      → AnswersRequest g b true (case_repo case).name (IsUserOf case) (λ world who n. put_verdict (case_seen world case who) n asked) old new before after r
  received_put sized may read named came out faulty replies all_read = record {
    bytes = bytes;
    read = read;
    answered = record {
      honest = λ k. may.same.was_honest (came.honest k);
      each = λ k world h who user n upto.
          let lead = reads_lead g old mid _ world may h in
          let is = ap (λ m. put_verdict (case_seen world case who) m asked) (upto refl ∙ sym sized) ∙ may.each (came.honest k) world h who user in
          answered_then g true world (case_repo case).name (put_verdict (case_seen world case who) n asked) old mid new lead may.same bytes (b.size after) r
          (put_by g mid new world (case_repo case).name asked.name bytes (b.size after) is received r (read_left b before after received out) all_read (subst (λ (name : List ℕ). Receives g mid new world name asked.name bytes (b.size after) received) named (came.each k world lead.holds)) replies);
    };
    settled = λ off. absurd (true≢false off);
    leaves = unread r all_read;
    whole = whole_by b before after received r out replies;
    good = good_by b before after received r out faulty replies;
    fault = faultyby b before after received r faulty replies;
  }
    where
      unread : (r : Result Reply BodyFault) → IfOk r (λ reply. reply.body_read ≡ true) → IfOk r (λ reply. reply.body_read ≡ false → after ≡ before)
      unread (Ok reply) read = λ stays. absurd (true≢false (sym read ∙ stays))
      unread (Err cut) read = tt
