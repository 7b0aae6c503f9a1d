-- The response to a message, by what the desk answered.
use Rattle.service.proofs.Prelude.{◌≡◌, ◌∙◌, ◌+◌, ◌<◌, ◌≤◌, ℕ, Bool, true, false, not, ◌&&◌, ◌||◌, nat_le, List, [], ◌++◌, length, take, drop, replicate, codes, MatchBool, Option, Some, None, Result, Ok, Err, is_err, is_ok, refl, sym, ap, ap₂, subst, arith, append-nil, length-append, bytes_eq, length-replicate, length-take-le, IfErr-at_err, ⊤, Ghosts, RequestHead, last_moment, BodyFault, World, Object, name_of, IsPolicy, ◌>>=◌, Form, Target, head_verdict, query_of, asks_close, is_method, body_length, Setting, Answer, Denial, Plan, receives, by_rule, by_row, by_lock, is_rule, is_store_refusal, store_refusal, verdict, desk_plan, desk_request, early_check, early_verdict, Message, Exchange, exchanged, Carries, verdict_on, by_verdict, by_refusal, denial_alone, message, is_early, is_of_head, is_h7, is_denial, is_x2, is_sure, denies_put, closes, closes_after, allow, after, BeginsWith, BeginsWithHead, message_with, unchanged, failed, left_by, answer_ending, bound_after, Leads, Keeps, ends_still, ends_reported, denial_changes_none, is_put, IsAnsweredAs, IsSettled, verdict_by, IsReplyOf, Asks, IsRefused, target_asked, whole_message, IsFirst, IsIncomplete, IsResponse, IsTurn, Responds, exchange, less_than_body, Asked, Response, head_more, Bor, cond, IsThere, AnswersBy, is_refused, RespondsWith, leaves_body, Request, RepoName, Rule, rule_seen, OnOk}
use Rattle.std.proofs.lemmas.Bool.{leb-false, leb-true, true≢false}
use Rattle.std.proofs.Math.Seq.{take-append-add}
use Rattle.std.specs.Result.{IfErr}
use Rattle.model.specs.declared.Form.TheVariants as form
use Rattle.model.specs.Objects.{content_verdict}
use Rattle.model.proofs.Refusals.{IsLate, IsOfPlan, desk_fails, desk_plan_fails, fails, request_fails, verdict_at, early_at}
use Rattle.model.proofs.Firsts.{begins_with_message}
use Rattle.names.specs.declared.rules.Rule.TheVariants as rule
use Rattle.refinement.specs.Left.{Gives}
use Rattle.desk.specs.declared.replies.Reply.{Reply}
use Rattle.desk.proofs.Told.{refused_is}
use Rattle.service.specs.declared.judging.Denied as refusing
use Rattle.service.proofs.Messages.{message_there, whole_first, cut_message}
use Rattle.service.proofs.Plans.{IsNamed, none_there, plan_made, put_alike, request_made, served, still_there, verdict_is}

-- ---- late refusals

-- an answer by a rule other than the head's rules, and other than a store refusal
pub record IsLateAnswer (given : Answer) : Type 0 where
  pub early : is_rule is_early given ≡ false
  pub of_head : is_rule is_of_head given ≡ false
  pub method : is_rule is_h7 given ≡ false

late_answer : (given : Answer) → IfErr given IsLate → IsLateAnswer given
late_answer (Ok granted) late = record { early = refl; of_head = refl; method = refl }
late_answer (Err denial) late = record { early = late.early; of_head = late.of_head; method = late.method }

pub late_verdict : (world : World) (setting : Setting) (h : RequestHead) (a : Asked) (body : List ℕ) → Asks h a → IsLateAnswer (verdict world setting h body)
late_verdict world setting h a body is =
    subst IsLateAnswer (sym (verdict_is world setting h a body is))
    (late_answer _ (desk_fails world setting (request_made h a body) body (request_fails a.form (target_asked a).parameter (query_of h.target) body)))

-- the denial of a plan
of_plan : (world : World) (setting : Setting) (h : RequestHead) (a : Asked) (body : List ℕ) (d : Denial) → plan_made world setting h a body ≡ Err d → IsOfPlan d
of_plan world setting h a body d is =
    IfErr-at_err IsOfPlan is (desk_plan_fails world setting (request_made h a body) (request_fails a.form (target_asked a).parameter (query_of h.target) body))

-- a late answer is not a certain one
not_sure : (given : Answer) → is_rule is_early given ≡ false → is_sure (Some given) ≡ false
not_sure (Ok grant) early = refl
not_sure (Err (by_rule r)) early = early
not_sure (Err (by_row n right status)) early = refl
not_sure (Err (by_lock l)) early = refl

-- a plan that is refused early is refused late
early_late : (f : Form) (plan : Result Plan Denial) → IfErr plan IsOfPlan → IfErr (early_check f plan) IsOfPlan
early_late form.Put plan is = fails IsOfPlan plan _ is (λ granted. tt)
early_late form.Batch plan is = tt
early_late form.Get plan is = tt
early_late form.Verify plan is = tt
early_late form.Lock plan is = tt
early_late form.List plan is = tt
early_late form.VerifyLocks plan is = tt
early_late form.Unlock plan is = tt

unsure_alone : (r : Result ⊤ Denial) → IfErr r IsOfPlan → is_sure (denial_alone r) ≡ false
unsure_alone (Ok x) is = refl
unsure_alone (Err d) is = not_sure (Err d) is.late.early

-- nothing is certain of a message whose head is not refused
pub unsure : (world : World) (setting : Setting) (h : RequestHead) (target : Target) (body : List ℕ) (all : Bool) → head_verdict h ≡ Ok target → is_sure (verdict_on world setting (message h body all)) ≡ false
unsure world setting h target body true is =
    let made = desk_request h target body in
    let late = late_answer _ (desk_fails world setting made body (request_fails target.form target.parameter (query_of h.target) body)) in
    not_sure (verdict world setting h body) (subst (λ v. is_rule is_early v ≡ false) (sym (verdict_at world setting h body target is)) late.early)
unsure world setting h target body false is =
    let made = desk_request h target [] in
    let late = early_late target.form (desk_plan world setting made) (desk_plan_fails world setting made (request_fails target.form target.parameter (query_of h.target) [])) in
    unsure_alone (early_verdict world setting h) (subst (λ r. IfErr r IsOfPlan) (sym (early_at world setting h target is)) late)

-- ---- before the body of an upload

put_form : (f : Form) → is_put f ≡ true → f ≡ form.Put
put_form form.Put put = refl
put_form form.Batch put = absurd (true≢false (sym put))
put_form form.Get put = absurd (true≢false (sym put))
put_form form.Verify put = absurd (true≢false (sym put))
put_form form.Lock put = absurd (true≢false (sym put))
put_form form.List put = absurd (true≢false (sym put))
put_form form.VerifyLocks put = absurd (true≢false (sym put))
put_form form.Unlock put = absurd (true≢false (sym put))

put_early : (world : World) (setting : Setting) (h : RequestHead) (a : Asked) → Asks h a → is_put a.form ≡ true → early_verdict world setting h ≡ (plan_made world setting h a [] >>= λ granted. Ok tt)
put_early world setting h a is put =
    early_at world setting h (target_asked a) is.target ∙ ap (λ f. early_check f (plan_made world setting h a [])) (put_form a.form put)

-- a denied plan is the answer, however much of the body is there
denied_on : (world : World) (setting : Setting) (h : RequestHead) (a : Asked) (body : List ℕ) (all : Bool) (d : Denial) → Asks h a → is_put a.form ≡ true → plan_made world setting h a [] ≡ Err d
    → verdict_on world setting (message h body all) ≡ Some (Err d)
denied_on world setting h a body true d is put denied =
    ap Some (verdict_is world setting h a body is ∙ ap (λ p. verdict_by world (target_asked a).repo p body) (put_alike world setting h a body [] put ∙ denied))
denied_on world setting h a body false d is put denied =
    ap denial_alone (put_early world setting h a is put ∙ ap (λ (p : Result Plan Denial). p >>= λ granted. Ok tt) denied)

allowed_on : (world : World) (setting : Setting) (h : RequestHead) (a : Asked) (plan : Result Plan Denial) → Asks h a → is_put a.form ≡ true → plan_made world setting h a [] ≡ plan → is_ok plan ≡ true
    → ◌≡◌ {A = Option Answer} (denial_alone (early_verdict world setting h)) None
allowed_on world setting h a (Ok granted) is put same ok = ap denial_alone (put_early world setting h a is put ∙ ap (λ (p : Result Plan Denial). p >>= λ granted. Ok tt) same)
allowed_on world setting h a (Err d) is put same ok = absurd (true≢false (sym ok))

-- nothing denies a head that asks for no upload before its body
pub passes_early : (f : Form) (plan : Result Plan Denial) → is_put f ≡ false → early_check f plan ≡ Ok tt
passes_early form.Put plan none = absurd (true≢false none)
passes_early form.Batch plan none = refl
passes_early form.Get plan none = refl
passes_early form.Verify plan none = refl
passes_early form.Lock plan none = refl
passes_early form.List plan none = refl
passes_early form.VerifyLocks plan none = refl
passes_early form.Unlock plan none = refl

no_early_denial : (world : World) (setting : Setting) (h : RequestHead) (a : Asked) → Asks h a → is_put a.form ≡ false → ◌≡◌ {A = Option Answer} (denial_alone (early_verdict world setting h)) None
no_early_denial world setting h a is none =
    ap denial_alone (early_at world setting h (target_asked a) is.target ∙ passes_early a.form (desk_plan world setting (request_made h a [])) none)

-- ---- whether the connection closes

shut_by : (asks rule store put : Bool) → rule ≡ false → put ≡ false → (asks || rule || store || put) ≡ (asks || store)
shut_by true rule store put a b = refl
shut_by false rule true put a b = rw a refl
shut_by false rule false put a b = rw (a, b) refl

shut_last : (asks rule store put : Bool) → put ≡ true → (asks || rule || store || put) ≡ true
shut_last true rule store put is = refl
shut_last false true store put is = refl
shut_last false false true put is = refl
shut_last false false false put is = is

store_closes : (asks rule put : Bool) → (asks || rule || true || put) ≡ true
store_closes true rule put = refl
store_closes false true put = refl
store_closes false false put = refl

denies_none : (is_put is_denial other : Bool) → (is_denial && other) ≡ false → (is_put && is_denial && other) ≡ false
denies_none true is_denial other none = none
denies_none false is_denial other none = refl

-- when a response closes
stays_by : (is_last leaves refusal : Bool) → leaves ≡ false → (is_last || leaves || refusal) ≡ (is_last || refusal)
stays_by true leaves refusal stays = refl
stays_by false leaves refusal stays = rw stays refl

last_closes : (is_last leaves refusal : Bool) → refusal ≡ true → (is_last || leaves || refusal) ≡ true
last_closes true leaves refusal refused = refl
last_closes false true refusal refused = refl
last_closes false false refusal refused = refused

closes_by : (is_last leaves refusal : Bool) → leaves ≡ true → (is_last || leaves || refusal) ≡ true
closes_by true leaves refusal closes = refl
closes_by false leaves refusal closes = rw closes refl

-- the verdict on a content is a grant, or X2
received_stays : (o : Object) → (is_denial (content_verdict o) && not (is_rule is_x2 (content_verdict o))) ≡ false
received_stays o = at (bytes_eq o.name (name_of o.bytes)) refl
  where
    at : (v : Bool) → bytes_eq o.name (name_of o.bytes) ≡ v → (is_denial (content_verdict o) && not (is_rule is_x2 (content_verdict o))) ≡ false
    at true e = rw e refl
    at false e = rw e refl

-- the response after an answer by the desk closes as the definitions say, unless it is the denial of an upload
answer_closes : (h : RequestHead) (a : Asked) (body : List ℕ) (given : Answer) (refusal : Bool) → Asks h a → refusal ≡ is_store_refusal given → is_rule is_of_head given ≡ false → denies_put h given ≡ false
    → closes_after (whole_message h body) given ≡ (a.is_last || refusal)
answer_closes h a body given refusal is same late put =
    shut_by (asks_close h) (is_rule is_of_head given) (is_store_refusal given) (denies_put h given) late put ∙ ap₂ (λ x y. x || y) is.last (sym same)

no_methods : (h : RequestHead) (body : List ℕ) (all : Bool) (given : Answer) → is_rule is_h7 given ≡ false → ◌≡◌ {A = List ℕ} [] (allow (message h body all) given)
no_methods h body all given other = rw other refl

-- ---- responses

-- bytes that begin with a message, whatever follows them, begin with it
pub begins_now : (bytes next : List ℕ) (e : Exchange) → IsFirst bytes e next → BeginsWith bytes e.asked (next ++ [])
begins_now bytes next e first = subst (λ (b : List ℕ). BeginsWith b e.asked (next ++ [])) (append-nil bytes) (first [])

begins_either : (bytes next rest : List ℕ) (e : Exchange) (close : Bool) → BeginsWith bytes e.asked rest → (close ≡ false → IsFirst bytes e next)
    → MatchBool close ((rest : List ℕ) × BeginsWith bytes e.asked rest) (IsFirst bytes e next)
begins_either bytes next rest e true begins first = (rest, begins)
begins_either bytes next rest e false begins first = first refl

never_open : {A : Type 0} (close : Bool) → close ≡ true → close ≡ false → A
never_open close shut open_ = absurd (true≢false (sym shut ∙ open_))

-- ---- responses by the desk

-- the response to the desk's reply, or the fault by which a content was cut off
abbrev pub RespondsBy : Asked → Result Request Rule → Option (Bor RepoName) → Result Reply BodyFault → Result Response BodyFault → Type 0
RespondsBy a q repo (Ok reply) (Ok r) = RespondsWith a q repo reply r
RespondsBy a q repo (Err cut) (Err e) = e ≡ cut
RespondsBy a q repo (Ok reply) (Err e) = ⊥
RespondsBy a q repo (Err cut) (Ok r) = ⊥

last_true : (v : Bool) → (v || true) ≡ true
last_true true = refl
last_true false = refl

module _ {S : Type 0} (g : Ghosts S) (setting : Setting) (in_range : IsPolicy setting.policy) (at : setting.now ≤ last_moment) (world : World) (old new : S) where
  -- the exchange that carries out an answer to a message at the front of some bytes
  turn_by : (bytes rest : List ℕ) (asked : Message) (given : Option Answer) (kept : World) → BeginsWith bytes asked rest → Carries world (exchange setting asked given) kept
      → Leads g old new kept (bound_after world (exchanged (exchange setting asked given))) → IsTurn g setting world old new (exchange setting asked given) kept
  turn_by bytes rest asked given kept begins carries leads = record {
    under = refl;
    takes = record {
      step = record { policy = in_range; now = at; asked = begins_with_message bytes asked rest begins; carries = carries };
      leads = leads;
    };
  }

  -- the response to a message at the front of some bytes
  made : (bytes rest next : List ℕ) (asked : Message) (given : Answer) (kept : World) (r : Response) → BeginsWith bytes asked rest → (r.close ≡ false → IsFirst bytes (exchange setting asked (Some given)) next)
      → Carries world (exchange setting asked (Some given)) kept → Leads g old new kept (bound_after world (exchanged (exchange setting asked (Some given))))
      → IsReplyOf r.reply given → IsThere kept r.repo given → r.allow.now ≡ allow asked given → closes_after asked given ≡ r.close → IsResponse g setting bytes next world old new r
  made bytes rest next asked given kept r begins first carries leads is_reply there methods shut = record {
    e = exchange setting asked (Some given);
    kept = kept;
    turn = turn_by bytes rest asked (Some given) kept begins carries leads;
    given = given;
    is = refl;
    is_reply = is_reply;
    there = there;
    methods = methods;
    closes = shut;
    begins = begins_either bytes next rest (exchange setting asked (Some given)) r.close begins first;
  }

  -- the response to a refused head
  pub refused_response : (bytes next : List ℕ) (asked : Message) (d : refusing.Denied) (r : Response) → IsRefused bytes asked d → Leads g old new world (λ bound. bound)
      → IsReplyOf r.reply (Err (by_rule (rule_seen d.rule))) → r.allow.now ≡ d.allow.now → r.close ≡ true → IsResponse g setting bytes next world old new r
  refused_response bytes next asked d r is p is_reply methods shut =
      let given : Answer = Err (by_rule (rule_seen d.rule)) in
      made bytes is.next next asked given world r is.begins (never_open r.close shut) (by_verdict (sym (is.verdict world setting)) (sym (ap (after world) (is.verdict world setting))))
      (ends_still g old new (answer_ending world (Some given)) world (after world (verdict_on world setting asked)) (denial_changes_none g world (by_rule (rule_seen d.rule))) p)
      is_reply (none_there world r.repo (by_rule (rule_seen d.rule))) (methods ∙ is.methods) (is.closes ∙ sym shut)

  -- the response if the store refused or memory ran out
  store_response : (bytes rest next : List ℕ) (h : RequestHead) (body : List ℕ) (all : Bool) (r : Response) → is_sure (verdict_on world setting (message h body all)) ≡ false
      → BeginsWith bytes (message h body all) rest → Leads g old new world (left_by failed world (after world (verdict_on world setting (message h body all))))
      → IsReplyOf r.reply store_refusal → r.allow.now ≡ [] → r.close ≡ true → IsResponse g setting bytes next world old new r
  store_response bytes rest next h body all r not_sure begins p is_reply methods shut =
      made bytes rest next (message h body all) store_refusal world r begins (never_open r.close shut) (by_refusal refl not_sure refl) p is_reply
      (none_there world r.repo (by_rule rule.S1)) methods
      (store_closes (asks_close h) (is_rule is_of_head store_refusal) (denies_put h store_refusal) ∙ sym shut)

  -- the same before anything was tried
  pub unread_response : (bytes rest next : List ℕ) (h : RequestHead) (target : Target) (body : List ℕ) (all : Bool) (r : Response) → head_verdict h ≡ Ok target → BeginsWith bytes (message h body all) rest
      → Leads g old new world (λ bound. bound) → IsReplyOf r.reply store_refusal → r.allow.now ≡ [] → r.close ≡ true → IsResponse g setting bytes next world old new r
  unread_response bytes rest next h target body all r is begins p =
      store_response bytes rest next h body all r (unsure world setting h target body all is) begins
      (ends_still g old new failed world (after world (verdict_on world setting (message h body all))) refl p)

  -- ---- a message that is not an upload, with its whole body

  -- the answer of the desk is the response
  module _ (bytes next : List ℕ) (h : RequestHead) (a : Asked) (body : List ℕ) (is : Asks h a) (there : (more : List ℕ) → BeginsWith (bytes ++ more) (whole_message h body) (next ++ more)) where
    first_of : (given : Option Answer) → IsFirst bytes (exchange setting (whole_message h body) given) next
    first_of given = there

    begins_whole : BeginsWith bytes (whole_message h body) (next ++ [])
    begins_whole = begins_now bytes next (exchange setting (whole_message h body) None) there

    -- the desk's reply to the whole message is the response, and the connection goes on unless a field asks to close it or
    -- the store refused
    replied_response : (reply : Reply) (r : Response) → AnswersBy g old new world (verdict world setting h body) reply → IsNamed setting a r.repo → denies_put h (verdict world setting h body) ≡ false
        → r.reply ≡ reply → r.allow.now ≡ [] → r.close ≡ (a.is_last || is_refused reply) → IsResponse g setting bytes next world old new r
    replied_response reply r done named put same methods shut = at_refusal (is_refused reply) refl
      where
        given : Answer
        given = verdict world setting h body

        shows : (v : Bool) → is_refused reply ≡ v → IsReplyOf r.reply (cond v store_refusal given)
        shows v e = subst (λ x. IsReplyOf x (cond v store_refusal given)) (sym same) (subst (λ u. IsReplyOf reply (cond u store_refusal given)) e done.shows)

        gives : (v : Bool) → is_refused reply ≡ v → Gives g old new world given (cond v store_refusal given)
        gives v e = subst (λ u. Gives g old new world given (cond u store_refusal given)) e done.gives

        at_refusal : (v : Bool) → is_refused reply ≡ v → IsResponse g setting bytes next world old new r
        at_refusal true e =
            store_response bytes (next ++ []) next h body true r (unsure world setting h (target_asked a) body true is.target) begins_whole (gives true e) (shows true e) methods
            (shut ∙ ap (λ v. a.is_last || v) e ∙ last_true a.is_last)
        at_refusal false e =
            let late = late_verdict world setting h a body is in
            made bytes (next ++ []) next (whole_message h body) given (after world (Some given)) r begins_whole (λ stays. first_of (Some given)) (by_verdict refl refl) (gives false e)
            (shows false e) (still_there world r.repo given (served world setting h a body r.repo is named)) (methods ∙ no_methods h body true given late.method)
            (answer_closes h a body given (is_refused reply) is (refused_is given reply (subst (λ x. IsReplyOf x given) same (shows false e))) late.of_head put ∙ sym shut)

    module _ (q : Result Request Rule) (repo : Option (Bor RepoName)) (plan : Result Plan Denial) (planned : plan ≡ plan_made world setting h a body) (none : is_put a.form ≡ false) (left : ℕ) where
      same_verdict : verdict_by world (target_asked a).repo plan body ≡ verdict world setting h body
      same_verdict = ap (λ p. verdict_by world (target_asked a).repo p body) planned ∙ sym (verdict_is world setting h a body is)

      pub whole_responds : (done : Result Reply BodyFault) (result : Result Response BodyFault) → OnOk done (IsNamed setting a repo) → IsAnsweredAs g false old new world (target_asked a).repo plan [] left done → IsSettled done
          → RespondsBy a q repo done result → Responds g setting bytes next world old new result
      whole_responds (Ok reply) (Ok r) named answers settled by =
          let put : denies_put h (verdict world setting h body) ≡ false = ap (λ (v : Bool). v && is_denial (verdict world setting h body) && not (is_rule is_x2 (verdict world setting h body))) (is.put ∙ none) in
          replied_response reply r (subst (λ v. AnswersBy g old new world v reply) same_verdict (answers.answers body (λ upload. absurd (true≢false (sym upload)))))
          (subst (IsNamed setting a) (sym by.repo) named) put by.reply by.allow
          (by.close ∙ stays_by a.is_last (leaves_body a.form q reply) (is_refused reply) (ap (λ v. v && (is_err q || not reply.body_read)) none))
      whole_responds (Ok reply) (Err cut) named answers settled by = absurd by
      whole_responds (Err cut) result named answers settled by = absurd settled

  -- ---- a message that is cut off

  -- it gets no response
  cut_incomplete : (bytes : List ℕ) (h : RequestHead) (body : List ℕ) → BeginsWith bytes (message h body false) [] → ◌≡◌ {A = Option Answer} (denial_alone (early_verdict world setting h)) None
      → Keeps g old new world → IsIncomplete g setting bytes world old new
  cut_incomplete bytes h body begins none p =
      let asked : Message = message h body false in
      less_than_body (exchange setting asked None) world (turn_by bytes [] asked None world begins (by_verdict (sym none) (sym (ap (after world) none))) p) begins refl

  pub unread_incomplete : (bytes : List ℕ) (h : RequestHead) (a : Asked) (body : List ℕ) → Asks h a → is_put a.form ≡ false → BeginsWith bytes (message h body false) [] → Leads g old new world (λ bound. bound)
      → IsIncomplete g setting bytes world old new
  unread_incomplete bytes h a body is none begins p =
      cut_incomplete bytes h body begins (no_early_denial world setting h a is none) (ends_still g old new unchanged world world refl p)

-- ---- an upload

length_zeros : (n : ℕ) → length {A = ℕ} (replicate n 0) ≡ n
length_zeros n = length-replicate n 0

-- the part of a body that was read, and what waits of it
whole_part : (part waits : List ℕ) (left n : ℕ) → length part + left ≡ n → nat_le n (length (part ++ waits)) ≡ true → (take n (part ++ waits) ≡ part ++ take left waits) × (length (take left waits) ≡ left)
whole_part part waits left n size fits = (
  ap (λ k. take k (part ++ waits)) (sym size) ∙ take-append-add part waits left,
  (let within : n ≤ length (part ++ waits) = leb-true n (length (part ++ waits)) fits in let e = length-append part waits in length-take-le left waits (omega (arith, within, e, size))),
)

some_missing : (part waits : List ℕ) (left n : ℕ) → length part + left ≡ n → nat_le n (length (part ++ waits)) ≡ false → 0 < left
some_missing part waits left n size short = let less = leb-false n (length (part ++ waits)) short in let e = length-append part waits in omega (arith, less, e, size)

err_of : (plan : Result Plan Denial) → is_err plan ≡ true → (d : Denial) × (plan ≡ Err d)
err_of (Ok p) is = absurd (true≢false (sym is))
err_of (Err d) is = (d, refl)

module _ {S : Type 0} (g : Ghosts S) (setting : Setting) (in_range : IsPolicy setting.policy) (at : setting.now ≤ last_moment) (world : World) (old new : S)
    (bytes after_head read part waits : List ℕ) (left : ℕ) (h : RequestHead) (a : Asked) (is : Asks h a) (begins : BeginsWithHead bytes h after_head)
    (order : after_head ++ read ≡ part ++ waits) (size : length part + left ≡ body_length h) (put : is_put a.form ≡ true)
    (plan : Result Plan Denial) (planned : plan ≡ plan_made world setting h a []) where
  abbrev repo : List ℕ
  repo = (target_asked a).repo

  verdict_with : (body : List ℕ) → verdict_by world repo plan body ≡ verdict world setting h body
  verdict_with body = ap (λ p. verdict_by world repo p body) (planned ∙ put_alike world setting h a [] body put) ∙ sym (verdict_is world setting h a body is)

  -- the message, however much of its body is there
  there : (body : List ℕ) (all : Bool) → take (body_length h) (part ++ waits) ≡ body → nat_le (body_length h) (length (part ++ waits)) ≡ all
      → BeginsWith (bytes ++ read) (message h body all) (drop (body_length h) (after_head ++ read))
  there body all same fits =
      subst (λ (m : Message). BeginsWith (bytes ++ read) m (drop (body_length h) (after_head ++ read)))
      (ap (λ (l : List ℕ). message_with h l) order ∙ ap₂ (λ (b : List ℕ) (v : Bool). message h b v) same fits) (message_there bytes after_head read h begins)

  -- the plan refuses, and so the content is unread
  module _ (d : Denial) (reply : Reply) (r : Response) (denied : plan ≡ Err d) (done : AnswersBy g old new world (Err d) reply) (same : r.reply ≡ reply) (methods : r.allow.now ≡ []) (shut : r.close ≡ true) where
    abbrev body_there : List ℕ
    body_there = take (body_length h) (part ++ waits)

    abbrev is_whole : Bool
    is_whole = nat_le (body_length h) (length (part ++ waits))

    is_denial_on : verdict_on world setting (message h body_there is_whole) ≡ Some (Err d)
    is_denial_on = denied_on world setting h a body_there is_whole d is put (sym planned ∙ denied)

    shows : (v : Bool) → is_refused reply ≡ v → IsReplyOf r.reply (cond v store_refusal (Err d))
    shows v e = subst (λ x. IsReplyOf x (cond v store_refusal (Err d))) (sym same) (subst (λ u. IsReplyOf reply (cond u store_refusal (Err d))) e done.shows)

    gives : (v : Bool) → is_refused reply ≡ v → Gives g old new world (Err d) (cond v store_refusal (Err d))
    gives v e = subst (λ u. Gives g old new world (Err d) (cond u store_refusal (Err d))) e done.gives

    refused_early : (v : Bool) → is_refused reply ≡ v → IsResponse g setting (bytes ++ read) waits world old new r
    refused_early true e =
        store_response g setting in_range at world old new (bytes ++ read) (drop (body_length h) (after_head ++ read)) waits h body_there is_whole r
        (unsure world setting h (target_asked a) body_there is_whole is.target) (there body_there is_whole refl refl)
        (subst (λ (v : Option Answer). Leads g old new world (left_by failed world (after world v))) (sym is_denial_on) (gives true e)) (shows true e) methods shut
    refused_early false e =
        let early = of_plan world setting h a [] d (sym planned ∙ denied) in
        let closing : denies_put h (Err d) ≡ true = ap (λ (v : Bool). v && true && not (is_rule is_x2 (Err d))) (is.put ∙ put) ∙ ap not early.content in
        made g setting in_range at world old new (bytes ++ read) (drop (body_length h) (after_head ++ read)) waits (message h body_there is_whole) (Err d) world r
        (there body_there is_whole refl refl) (never_open r.close shut) (by_verdict (sym is_denial_on) (sym (ap (after world) is_denial_on)))
        (subst (λ (v : Option Answer). Leads g old new world (left_by (answer_ending world (Some (Err d))) world (after world v))) (sym is_denial_on) (gives false e))
        (shows false e) (none_there world r.repo d) (methods ∙ no_methods h body_there is_whole (Err d) early.late.method)
        (shut_last (asks_close h) (is_rule is_of_head (Err d)) (is_store_refusal (Err d)) (denies_put h (Err d)) closing ∙ sym shut)

  -- the store refused: all of the content is there, or some of it is missing and the world is kept
  failed_put : (reply : Reply) (r : Response) → ((rest : List ℕ) → length rest ≡ left → AnswersBy g old new world (verdict_by world repo plan (part ++ rest)) reply) → (0 < left → Keeps g old new world)
      → is_refused reply ≡ true → r.reply ≡ reply → r.allow.now ≡ [] → r.close ≡ true → IsResponse g setting (bytes ++ read) waits world old new r
  failed_put reply r answers kept refused same methods shut = at_size (nat_le (body_length h) (length (part ++ waits))) refl
    where
      after_it : List ℕ
      after_it = drop (body_length h) (after_head ++ read)

      -- the answer to a content of any rest
      done : (rest : List ℕ) → length rest ≡ left → IsReplyOf reply store_refusal × Leads g old new world (left_by failed world (after world (Some (verdict_by world repo plan (part ++ rest)))))
      done rest sized =
          let all = answers rest sized in
          let v = verdict_by world repo plan (part ++ rest) in
          (subst (λ u. IsReplyOf reply (cond u store_refusal v)) refused all.shows, subst (λ u. Gives g old new world v (cond u store_refusal v)) refused all.gives)

      is_reply : IsReplyOf r.reply store_refusal
      is_reply = subst (λ x. IsReplyOf x store_refusal) (sym same) (done (replicate left 0) (length_zeros left)).0

      respond : (body : List ℕ) (all : Bool) → BeginsWith (bytes ++ read) (message h body all) after_it → Leads g old new world (left_by failed world (after world (verdict_on world setting (message h body all))))
          → IsResponse g setting (bytes ++ read) waits world old new r
      respond body all begins_so p =
          store_response g setting in_range at world old new (bytes ++ read) after_it waits h body all r (unsure world setting h (target_asked a) body all is.target) begins_so p is_reply methods shut

      at_size : (v : Bool) → nat_le (body_length h) (length (part ++ waits)) ≡ v → IsResponse g setting (bytes ++ read) waits world old new r
      at_size true fits =
          let whole = whole_part part waits left (body_length h) size fits in
          let body = part ++ take left waits in
          respond body true (there body true whole.0 fits)
          (subst (λ (v : Answer). Leads g old new world (left_by failed world (after world (Some v)))) (verdict_with body) (done (take left waits) whole.1).1)
      at_size false short =
          let body = take (body_length h) (part ++ waits) in
          respond body false (there body false refl short)
          (ends_reported g old new world (after world (verdict_on world setting (message h body false))) (kept (some_missing part waits left (body_length h) size short)))

  -- all of the content was read
  received_put : (name : List ℕ) (reply : Reply) (r : Response) → plan ≡ Ok (receives name) → left ≡ 0 → AnswersBy g old new world (verdict_by world repo plan (part ++ [])) reply → IsNamed setting a r.repo
      → r.reply ≡ reply → r.allow.now ≡ [] → r.close ≡ (a.is_last || is_refused reply) → IsResponse g setting (bytes ++ read) waits world old new r
  received_put name reply r allowed none done named same methods shut =
      let fits : length part ≡ body_length h = omega (arith, size, none) in
      let o : Object = record { repo = repo; name = name; bytes = part } in
      let given : verdict world setting h part ≡ content_verdict o = sym (verdict_with part) ∙ ap (λ p. verdict_by world repo p part) allowed in
      let put_stays : denies_put h (content_verdict o) ≡ false =
      denies_none (is_method (codes "PUT") h) (is_denial (content_verdict o)) (not (is_rule is_x2 (content_verdict o))) (received_stays o) in
      let stays : denies_put h (verdict world setting h part) ≡ false = ap (denies_put h) given ∙ put_stays in
      replied_response g setting in_range at world old new (bytes ++ read) waits h a part is (λ more. whole_first bytes after_head read h begins part waits more order fits) reply r
      (subst (λ v. AnswersBy g old new world v reply) (verdict_with part) (subst (λ (b : List ℕ). AnswersBy g old new world (verdict_by world repo plan b) reply) (append-nil part) done))
      named stays same methods shut

  module _ (q : Result Request Rule) (name : Option (Bor RepoName)) where
    -- the plan refuses the request, or the store refused
    pub refused_put : (reply : Reply) (r : Response) → ((rest : List ℕ) → length rest ≡ left → AnswersBy g old new world (verdict_by world repo plan (part ++ rest)) reply)
        → is_err plan ≡ true → leaves_body a.form q reply ≡ true → RespondsWith a q name reply r → IsResponse g setting (bytes ++ read) waits world old new r
    refused_put reply r answers early leaves by =
        let denied = err_of plan early in
        refused_early denied.0 reply r denied.1
        (subst (λ p. AnswersBy g old new world (verdict_by world repo p (part ++ replicate left 0)) reply) denied.1 (answers (replicate left 0) (length_zeros left)))
        by.reply by.allow (by.close ∙ closes_by a.is_last (leaves_body a.form q reply) (is_refused reply) leaves) (is_refused reply) refl

    put_answered : (reply : Reply) (r : Response) → IsNamed setting a name → IsAnsweredAs g true old new world repo plan part left (Ok reply) → is_err q ≡ false → RespondsWith a q name reply r → IsResponse g setting (bytes ++ read) waits world old new r
    put_answered reply r named answers taken by = at_refusal (is_refused reply) refl
      where
        all : (rest : List ℕ) → length rest ≡ left → AnswersBy g old new world (verdict_by world repo plan (part ++ rest)) reply
        all rest sized = answers.answers rest (λ upload. sized)

        leaves : (v : Bool) → reply.body_read ≡ v → leaves_body a.form q reply ≡ not v
        leaves v e = ap (λ u. u && (is_err q || not reply.body_read)) put ∙ ap (λ u. u || not reply.body_read) taken ∙ ap not e

        in_time : (v : Bool) → reply.body_read ≡ v → MatchBool v ((name : List ℕ) × (plan ≡ Ok (receives name)) × (left ≡ 0)) (is_err plan ≡ true) → IsResponse g setting (bytes ++ read) waits world old new r
        in_time true e early =
            received_put early.0 reply r early.1 early.2 (all [] (sym early.2)) (subst (IsNamed setting a) (sym by.repo) named) by.reply by.allow
            (by.close ∙ stays_by a.is_last (leaves_body a.form q reply) (is_refused reply) (leaves true e))
        in_time false e early = refused_put reply r all early (leaves false e) by

        at_refusal : (v : Bool) → is_refused reply ≡ v → IsResponse g setting (bytes ++ read) waits world old new r
        at_refusal true e = failed_put reply r all (answers.kept refl e) e by.reply by.allow (by.close ∙ last_closes a.is_last (leaves_body a.form q reply) (is_refused reply) e)
        at_refusal false e = in_time reply.body_read refl (answers.in_time refl e)

    pub put_responds : (done : Result Reply BodyFault) (result : Result Response BodyFault) → OnOk done (IsNamed setting a name) → IsAnsweredAs g true old new world repo plan part left done → IfErr done (λ cut. (0 < left) × (waits ≡ [])) → is_err q ≡ false
        → RespondsBy a q name done result → Responds g setting (bytes ++ read) waits world old new result
    put_responds (Ok reply) (Ok r) named answers cut taken by = put_answered reply r named answers taken by
    put_responds (Ok reply) (Err e) named answers cut taken by = absurd by
    put_responds (Err e) (Ok r) named answers cut taken by = absurd by
    put_responds (Err e) (Err f) named answers cut taken by =
        let less : length (after_head ++ read) < body_length h = omega (arith, ap length order, length-append part waits, ap length cut.1, cut.0, size) in
        cut_incomplete g setting in_range at world old new (bytes ++ read) h _ (cut_message (bytes ++ read) (after_head ++ read) h (head_more bytes h after_head read begins) less)
        (allowed_on world setting h a plan is put (sym planned) (answers.in_time refl)) (answers.answers (replicate left 0) (λ upload. length_zeros left))
