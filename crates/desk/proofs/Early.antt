-- A reply before the content of an upload is read, after calls that only read, and to a request without content.
use Rattle.desk.proofs.Prelude.{◌≡◌, ◌∙◌, ◌<◌, ℕ, Bool, true, false, not, MatchBool, List, [], ◌∷◌, ◌++◌, Some, Result, Ok, Err, is_err, refl, sym, ap, subst, Ghosts, World, Answer, Denial, Plan, receives, store_refusal, answer_ending, failed, From, Leads, Keeps, KeepsTables, Reads, ends_still, keeps_still, leaves_kept, leaves_then, reads_lead, still_then, left_by, Reply, IsReplyOf, ShowsIf, given_in, is_refused, IsAnsweredAs, AnswersBy, AnswersIf, AnswersRequest, BodyFault, given_with, verdict_by, uploads, request_asked, NotGranted, denial_view}
use Rattle.std.specs.Result.{IfErr, IfOk}
use Rattle.std.proofs.lemmas.Bool.{true≢false}
use Rattle.names.specs.declared.bodies.Body.{Ghosts as BodyGhosts}
use Rattle.forms.specs.declared.objects.PutRequest.{PutRequest}
use Rattle.forms.specs.declared.request.Request as code
use Rattle.forms.specs.declared.request.Request.TheVariants as form
use Rattle.model.specs.Steps.{after}
use Rattle.desk.specs.Objects.{DeniesIf}
use Rattle.desk.specs.Receiving.{RefusesUpload}
use Rattle.desk.specs.declared.outcomes.NotGranted.TheVariants as not_granted
use Rattle.desk.proofs.Arriving.{read_none}
use Rattle.desk.proofs.Told.{refused_is, told_refusal, told_denial}
use Rattle.desk.proofs.Unchanged.{Replies}

module _ {S : Type 0} (g : Ghosts S) (is_upload : Bool) (world : World) (repo : List ℕ) (plan : Result Plan Denial) where
  module _ (old new : S) (lead : Leads g old new world (λ bound. bound)) (same : KeepsTables g old new) (bytes : List ℕ) (left : ℕ) where
    early : (reply : Reply) → ((more : List ℕ) → AnswersBy g old new world (verdict_by world repo plan (bytes ++ more)) reply)
        → (is_upload ≡ true → is_refused reply ≡ false → MatchBool reply.body_read ((name : List ℕ) × (plan ≡ Ok (receives name)) × (left ≡ 0)) (is_err plan ≡ true))
        → IsAnsweredAs g is_upload old new world repo plan bytes left (Ok reply)
    early reply answers in_time = record {
      answers = λ more is. answers more;
      in_time = in_time;
      kept = λ put refused some. keeps_still g old new world lead;
      tables = λ more denied. leaves_kept g old new (answer_ending world (Some (given_in (verdict_by world repo plan (bytes ++ more)) reply))) same;
    }

    -- the store refused, or memory ran out, before anything was tried
    pub failed_early : (reply : Reply) → IsReplyOf reply store_refusal → IsAnsweredAs g is_upload old new world repo plan bytes left (Ok reply)
    failed_early reply shows =
        early reply (λ more. told_refusal g old new world _ reply shows (ends_still g old new failed world (after world (Some (verdict_by world repo plan (bytes ++ more)))) refl lead))
        (λ put other. absurd (true≢false (sym (refused_is store_refusal reply shows) ∙ other)))

    -- the plan refuses
    pub denied_early : (denial : Denial) (reply : Reply) → plan ≡ Err denial → ShowsIf (Err denial) reply → reply.body_read ≡ not is_upload
        → IsAnsweredAs g is_upload old new world repo plan bytes left (Ok reply)
    denied_early denial reply is shows read =
        early reply (λ more. told_denial g old new world _ denial reply (ap (λ p. verdict_by world repo p (bytes ++ more)) is) shows lead) (λ put other. unread reply.body_read (read ∙ ap not put))
      where
        unread : (v : Bool) → v ≡ false → MatchBool v ((name : List ℕ) × (plan ≡ Ok (receives name)) × (left ≡ 0)) (is_err plan ≡ true)
        unread false e = ap is_err is
        unread true e = absurd (true≢false e)

    -- the same of an upload, or the store refused
    pub refused_early : is_upload ≡ true → (refused : NotGranted) (reply : Reply) → DeniesIf refused plan → RefusesUpload refused reply → IsAnsweredAs g is_upload old new world repo plan bytes left (Ok reply)
    refused_early put (not_granted.Denied denial) reply is shows = denied_early (denial_view denial) reply is shows.0 (shows.1 ∙ sym (ap not put))
    refused_early put (not_granted.Store fault) reply is shows = failed_early reply shows.0

  module _ (old mid new : S) (lead : Leads g old mid world (λ bound. bound)) (same : KeepsTables g old mid) (bytes : List ℕ) (left : ℕ) where
    if_then : (verdict : Answer) (r : Result Reply BodyFault) → AnswersIf g mid new world verdict r → AnswersIf g old new world verdict r
    if_then verdict (Ok reply) done =
        let given = given_in verdict reply in record {
          shows = done.shows;
          gives = still_then g old mid new world (after world (Some given)) (left_by (answer_ending world (Some given)) world (after world (Some verdict))) lead done.gives;
        }
    if_then verdict (Err f) done = still_then g old mid new world world (λ bound. world ∷ bound) lead done

    kept_then : (r : Result Reply BodyFault) → IfOk r (λ reply. is_refused reply ≡ true → 0 < left → Keeps g mid new world) → IfOk r (λ reply. is_refused reply ≡ true → 0 < left → Keeps g old new world)
    kept_then (Ok reply) kept = λ refused some. still_then g old mid new world world (λ bound. world ∷ bound) lead (kept refused some)
    kept_then (Err f) kept = tt

    -- a reply after calls that only read
    pub answered_then : (r : Result Reply BodyFault) → IsAnsweredAs g is_upload mid new world repo plan bytes left r → IsAnsweredAs g is_upload old new world repo plan bytes left r
    answered_then r done = record {
      answers = λ more len. if_then _ r (done.answers more len);
      in_time = done.in_time;
      kept = λ put. kept_then r (done.kept put);
      tables = λ more denied. leaves_then g old mid new (answer_ending world (given_with (verdict_by world repo plan (bytes ++ more)) r)) same (done.tables more denied);
    }

-- ---- the reply to a request, whoever asks

module _ {S B W : Type 0} {g : Ghosts S} {b : BodyGhosts B} {is_upload : Bool} {repo : List ℕ} {IsAsking : W → Type 0} {plan : World → W → ℕ → Result Plan Denial} {old new : S} {content : B}
    (unread : b.moves content content []) where
  -- the content is as it was
  first : (reply : Reply) → (is_upload ≡ false → reply.body_read ≡ true) → (is_refused reply ≡ false → reply.body_read ≡ true → is_upload ≡ true → ⊥)
      → From g old new (λ world. (who : W) → IsAsking who → (size : ℕ) → (is_upload ≡ true → size ≡ b.size content) → IsAnsweredAs g is_upload old new world repo (plan world who size) [] (b.size content) (Ok reply))
      → AnswersRequest g b is_upload repo IsAsking plan old new content content (Ok reply)
  first reply settled unread_put answered = record {
    bytes = [];
    read = read_none b content content unread refl;
    answered = answered;
    settled = λ none. (settled none, refl);
    leaves = λ stays. refl;
    whole = λ other stays put. absurd (unread_put other stays put);
    good = refl;
    fault = tt;
  }

  -- the store refused, or memory ran out, after calls that only read
  pub failed_first : {P : World → Type 0} (reply : Reply) → Reads g old new P → IsReplyOf reply store_refusal → reply.body_read ≡ true → AnswersRequest g b is_upload repo IsAsking plan old new content content (Ok reply)
  failed_first reply reads shows read =
      first reply (λ none. read) (λ other stays put. true≢false (sym (refused_is store_refusal reply shows) ∙ other)) (record {
        honest = reads.same.was_honest;
        each = λ honest world h who asks size sized. failed_early g is_upload world repo (plan world who size) old new (reads_lead g old new _ world reads h) reads.same [] (b.size content) reply shows;
      })

  -- the plan refuses
  pub denied_first : {P : World → Type 0} (denial : Denial) (reply : Reply) → Reads g old new P
      → ((world : World) → P world → (who : W) → IsAsking who → (size : ℕ) → (is_upload ≡ true → size ≡ b.size content) → plan world who size ≡ Err denial)
      → ShowsIf (Err denial) reply → reply.body_read ≡ not is_upload → AnswersRequest g b is_upload repo IsAsking plan old new content content (Ok reply)
  denied_first denial reply reads is shows read =
      first reply (λ none. read ∙ ap not none) (λ other stays put. true≢false (sym stays ∙ read ∙ ap not put)) (record {
        honest = reads.same.was_honest;
        each = λ honest world h who asks size sized.
            denied_early g is_upload world repo (plan world who size) old new (reads_lead g old new _ world reads h) reads.same [] (b.size content) denial reply (is world (reads.each honest world h) who asks size sized) shows read;
      })

  -- the same of an upload, or the store refused
  pub refused_first : {P : World → Type 0} (refused : NotGranted) (reply : Reply) → is_upload ≡ true → Reads g old new P
      → ((world : World) → P world → (who : W) → IsAsking who → (size : ℕ) → (is_upload ≡ true → size ≡ b.size content) → DeniesIf refused (plan world who size))
      → RefusesUpload refused reply → AnswersRequest g b is_upload repo IsAsking plan old new content content (Ok reply)
  refused_first (not_granted.Denied denial) reply put reads is shows = denied_first (denial_view denial) reply reads is shows.0 (shows.1 ∙ sym (ap not put))
  refused_first (not_granted.Store fault) reply put reads is shows = failed_first reply reads shows.0 shows.1

  -- the body was read before
  pub replied_before : (none : is_upload ≡ false) (reply : Reply) → reply.body_read ≡ true
      → ((size : ℕ) (body : List ℕ) → From g old new (λ world. (who : W) → IsAsking who → Replies g old new world (verdict_by world repo (plan world who size) body) reply))
      → AnswersRequest g b is_upload repo IsAsking plan old new content content (Ok reply)
  replied_before none reply read answers =
      first reply (λ off. read) (λ other stays put. true≢false (sym put ∙ none)) (record {
        honest = (answers 0 []).honest;
        each = λ honest world h who asks size sized. record {
          answers = λ more len. ((answers size more).each honest world h who asks).0;
          in_time = λ put. absurd (true≢false (sym put ∙ none));
          kept = λ put. absurd (true≢false (sym put ∙ none));
          tables = λ more denied. ((answers size more).each honest world h who asks).1;
        };
      })

module _ {S B W V : Type 0} {g : Ghosts S} {b : BodyGhosts B} {is_upload other : Bool} {repo name : List ℕ} {IsAsking : W → Type 0} {IsCalling : V → Type 0} {plan : World → W → ℕ → Result Plan Denial}
    {made : World → V → ℕ → Result Plan Denial} {old mid new : S} {before after : B} {r : Result Reply BodyFault} {P : World → Type 0} where
  -- the same plan for the same request, after calls that only read
  pub answered_after : is_upload ≡ other → repo ≡ name → Reads g old mid P
      → ((world : World) → P world → (v : V) → IsCalling v → (size : ℕ) → (is_upload ≡ true → size ≡ b.size before) → (who : W) × IsAsking who × (plan world who size ≡ made world v size))
      → AnswersRequest g b is_upload repo IsAsking plan mid new before after r → AnswersRequest g b other name IsCalling made old new before after r
  answered_after upload named reads same done =
      subst (λ (u : Bool). AnswersRequest g b u name IsCalling made old new before after r) upload
      (subst (λ (n : List ℕ). AnswersRequest g b is_upload n IsCalling made old new before after r) named (record {
        bytes = done.bytes;
        read = done.read;
        answered = record {
          honest = λ k. reads.same.was_honest (done.answered.honest k);
          each = λ honest world h v calls size sized.
              let lead = reads_lead g old mid _ world reads h in
              let asks = same world (reads.each (done.answered.honest honest) world h) v calls size sized in
              subst (λ (p : Result Plan Denial). IsAnsweredAs g is_upload old new world repo p done.bytes (b.size after) r) asks.2
              (answered_then g is_upload world repo (plan world asks.0 size) old mid new lead reads.same done.bytes (b.size after) r (done.answered.each honest world lead.holds asks.0 asks.1 size sized));
        };
        settled = done.settled;
        leaves = done.leaves;
        whole = done.whole;
        good = done.good;
        fault = done.fault;
      }))

pub uploads_none : (request : code.Request) → ((asked : PutRequest) → request ≡ form.Put asked → ⊥) → uploads (request_asked request) ≡ false
uploads_none (form.Batch asked) other = refl
uploads_none (form.Get asked) other = refl
uploads_none (form.Put asked) other = absurd (other asked refl)
uploads_none (form.Verify asked) other = refl
uploads_none (form.Lock asked) other = refl
uploads_none (form.List asked) other = refl
uploads_none (form.VerifyLocks asked) other = refl
uploads_none (form.Unlock asked) other = refl
