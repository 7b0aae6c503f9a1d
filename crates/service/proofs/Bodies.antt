-- A message whose body is read before the answer, or by it.
use Rattle.service.proofs.Prelude.{◌≡◌, ◌∙◌, ◌+◌, ◌<◌, ◌≤◌, ℕ, Bool, true, false, List, [], ◌++◌, length, Result, Ok, Err, refl, sym, ap, subst, arith, nil_from_length, Consumes, IsAtEnd, Ghosts, RequestHead, last_moment, BodyFault, World, IsPolicy, body_length, content_length, Setting, desk_plan, BeginsWithHead, waiting, source_of, body_left, HandsOut, Hands, by_none, by_read, by_both, is_put, request_seen, IsAnsweredAs, IsSettled, RepoRequest, Asks, IsRequestOf, target_asked, Responds, Asked, Response, ap₂, not, ◌&&◌, ◌||◌, ◌>>=◌, is_err, is_ok, Option, Bor, RepoName, Rule, Request, Reply, Plan, Denial, is_upload_of, IsReadFrom, AnswersBy, verdict_by, OnOk, RespondsWith, leaves_body, is_refused}
use Rattle.std.proofs.lemmas.Bool.{true≢false}
use Rattle.std.specs.Result.{IfErr}
use Rattle.std.proofs.Common.{IsErrAnd}
use Rattle.names.specs.declared.bodies.Body as content
use Rattle.names.specs.declared.bodies.BodyFault.TheVariants.{Ended, Device}
use Rattle.names.specs.declared.streams.Source as source
use Rattle.wire.specs.declared.connection.Conn.{Conn}
use Rattle.wire.specs.declared.inflow.Inflow.{Inflow}
use Rattle.wire.specs.declared.inflow.WholeFault.TheVariants as whole
use Rattle.wire.proofs.Handed.{handed}
use Rattle.desk.specs.Contents.{IsLeftBy}
use Rattle.forms.specs.Requests.{request_asked}
use Rattle.service.proofs.Messages.{body_is, whole_first}
use Rattle.service.proofs.Plans.{IsNamed, made_as, plan_made, reads_upload, refused_plan}
use Rattle.service.proofs.Responses.{RespondsBy, put_responds, refused_put, whole_responds}

pub not_memory : (f : BodyFault) → whole.Body f ≡ whole.Memory → ⊥
not_memory f e = absurd (cc)

-- if a content is cut off, some of it is missing, and nothing waits
pub cut_off : {B : Type 0} (g : content.Ghosts B) (old new : B) (done : Result Reply BodyFault) → IfErr done (IsLeftBy g old new) → IfErr done (λ cut. (0 < g.size new) × g.is_drained new)
cut_off g old new (Ok reply) left = tt
cut_off g old new (Err Ended) left = (left.0.some, left.0.drained)
cut_off g old new (Err Device) left = (left.0.some, left.0.drained)

none_of : (x y z : Bool) → (x || y || z) ≡ false → (y ≡ false) × (z ≡ false)
none_of true y z e = absurd (true≢false e)
none_of false true z e = absurd (true≢false e)
none_of false false z e = (refl, e)

not_not : (v : Bool) → not v ≡ false → v ≡ true
not_not true e = refl
not_not false e = absurd (true≢false e)

-- a fault that is passed on
pub cut_by : (a : Asked) (q : Result Request Rule) (repo : Option (Bor RepoName)) (cut : BodyFault) (r : Result Response BodyFault) → IsErrAnd r (λ e. e ≡ cut) → RespondsBy a q repo (Err cut) r
cut_by a q repo cut (Ok x) is = absurd is
cut_by a q repo cut (Err e) is = is

-- the rest of a body, as it arrives
abbrev pub content_of : {R : Type 0} (s : source.Ghosts R) → content.Ghosts (Inflow R s)
content_of s = record {
  size = λ i. i.conn.now.left;
  failed = λ i. s.failed i.conn.now.source;
  moves = λ old new bytes. (new.conn.ghost_name ≡ old.conn.ghost_name) × Hands old.conn.now new.conn.now bytes;
  is_drained = λ i. waiting i.conn.now ≡ [];
  is_ended = λ i. IsAtEnd (s.left i.conn.now.source);
}

-- no byte of a body was read
pub handed_none : {R : Type 0} {s : source.Ghosts R} (c : Conn R s) → HandsOut c c []
handed_none c = handed c c [] (by_none c)

module _ {R : Type 0} {s : source.Ghosts R} (o m n : Conn R s) where
  -- a body that was read in part before the answer, and in part by it
  pub both_handed : (part more : List ℕ) → HandsOut o m part → Hands m n more → HandsOut o n (part ++ more)
  both_handed part more hands then = handed o n (part ++ more) (by_both o m n part more (by_read o m part hands) then)

  -- the connection goes on only after the whole body was read
  pub left_open : (a : Asked) (body : List ℕ) (q : Result Request Rule) (request : RepoRequest) (repo : Option (Bor RepoName)) (reply : Reply) (r : Response) → IsReadFrom a body q → IsRequestOf a q request → RespondsWith a q repo reply r
      → (is_put a.form ≡ false → body_left m ≡ 0) → (is_upload_of request ≡ false → n ≡ m) → (is_refused reply ≡ false → reply.body_read ≡ true → is_upload_of request ≡ true → body_left n ≡ 0)
      → r.close ≡ false → body_left n ≡ 0
  left_open a body q request repo reply r has_read made by whole settled read_out open_ = at (is_put a.form) refl q refl
    where
      stays : (leaves_body a.form q reply ≡ false) × (is_refused reply ≡ false)
      stays = none_of a.is_last (leaves_body a.form q reply) (is_refused reply) (sym by.close ∙ open_)

      at : (v : Bool) → is_put a.form ≡ v → (x : Result Request Rule) → q ≡ x → body_left n ≡ 0
      at true put (Err e) is =
          absurd (true≢false (sym (ap₂ (λ (u : Bool) (y : Result Request Rule). u && (is_err y || not reply.body_read)) put is) ∙ stays.0))
      at true put (Ok x) is =
          let unread : not reply.body_read ≡ false = sym (ap₂ (λ (u : Bool) (y : Result Request Rule). u && (is_err y || not reply.body_read)) put is) ∙ stays.0 in
          read_out stays.1 (not_not reply.body_read unread) (reads_upload a body q request has_read made ∙ ap₂ (λ (u : Bool) (y : Result Request Rule). u && is_ok y) put is)
      at false none x is = ap (λ (c : Conn R s). body_left c) (settled (reads_upload a body q request has_read made ∙ ap (λ (u : Bool). u && is_ok q) none)) ∙ whole none

  module _ {S : Type 0} (g : Ghosts S) (setting : Setting) (in_range : IsPolicy setting.policy) (at : setting.now ≤ last_moment) (world : World) (old new : S)
      (a : Asked) (body : List ℕ) (q : Result Request Rule) (request : RepoRequest) (has_read : IsReadFrom a body q) (made : IsRequestOf a q request) (repo : Option (Bor RepoName))
      (part : List ℕ) (hands : HandsOut o m part) (same : part ≡ body) (upload : is_put a.form ≡ true → (body ≡ []) × (m ≡ o)) (whole : is_put a.form ≡ false → body_left m ≡ 0)
      (more : List ℕ) (moves : Hands m n more) (sum : length more + body_left n ≡ body_left m)
      (done : Result Reply BodyFault) (result : Result Response BodyFault) (named : OnOk done (IsNamed setting a repo)) (settled : is_upload_of request ≡ false → IsSettled done × (n ≡ m))
      (cut : IfErr done (λ cut. (0 < body_left n) × (waiting n ≡ []))) (by : RespondsBy a q repo done result)
      (answers : (size : ℕ) → (is_upload_of request ≡ true → size ≡ body_left m) → IsAnsweredAs g (is_upload_of request) old new world (target_asked a).repo (desk_plan world setting (request_seen request size)) more (body_left n) done)
      (bytes : List ℕ) (h : RequestHead) (begins : BeginsWithHead bytes h (waiting o)) (size : body_left o ≡ content_length h) (asks : Asks h a) where
    abbrev IsTurned : Type 0
    IsTurned = (read : List ℕ) × Consumes (s.left (source_of o)) (s.left (source_of n)) read × Responds g setting (bytes ++ read) (waiting n) world old new result

    -- the plan for a content as long as the head says
    abbrev plan : Result Plan Denial
    plan = desk_plan world setting (request_seen request (content_length h))

    long : body_length h ≡ content_length h
    long = body_is h (target_asked a) asks.target

    planned : (given : List ℕ) → body ≡ given → plan ≡ plan_made world setting h a given
    planned given is = ap (desk_plan world setting) (made_as h a body (content_length h) q request asks has_read made refl) ∙ ap (λ (b : List ℕ). plan_made world setting h a b) is

    -- the request is an upload, or a rule refused it, or it is none
    answered_as : (v : Bool) → is_upload_of request ≡ v → (v ≡ true → m ≡ o) → IsAnsweredAs g v old new world (target_asked a).repo plan more (body_left n) done
    answered_as v is start =
        subst (λ (u : Bool). IsAnsweredAs g u old new world (target_asked a).repo plan more (body_left n) done) is
        (answers (content_length h) (λ upload. sym size ∙ ap (λ (c : Conn R s). body_left c) (sym (start (sym is ∙ upload)))))

    turned_put : is_put a.form ≡ true → is_upload_of request ≡ true → is_err q ≡ false → IsTurned
    turned_put put uploads taken =
        let start = (upload put).1 in
        let all = handed o n more (subst (λ (c : Conn R s). Hands c n more) start moves) in (
          all.read,
          all.moves.consumes,
          put_responds g setting in_range at world old new bytes (waiting o) all.read more (waiting n) (body_left n) h a asks begins all.moves.order (all.left ∙ size ∙ sym long) put
              plan (planned [] (upload put).0) q repo done result named (answered_as true uploads (λ v. start)) cut taken by,
        )

    -- a rule refuses the request, and its content is unread
    turned_refused : (r : Rule) → is_put a.form ≡ true → is_upload_of request ≡ false → q ≡ Err r → IsTurned
    turned_refused r put other is = at_result done result settled_now (answered_as false other (λ v. absurd (true≢false (sym v)))) by
      where
        rest : IsSettled done × (n ≡ m)
        rest = settled other

        settled_now : IsSettled done
        settled_now = rest.0

        start : n ≡ o
        start = rest.1 ∙ (upload put).1

        none : more ≡ []
        none = nil_from_length more (omega (arith, sum, ap (λ (c : Conn R s). body_left c) rest.1))

        refused : is_err plan ≡ true
        refused = refused_plan world setting (request_seen request (content_length h)) r (ap (λ (x : Result Request Rule). x >>= λ y. Ok (request_asked y)) (made.request ∙ is))

        at_result : (done : Result Reply BodyFault) (result : Result Response BodyFault) → IsSettled done → IsAnsweredAs g false old new world (target_asked a).repo plan more (body_left n) done → RespondsBy a q repo done result → (read : List ℕ) × Consumes (s.left (source_of o)) (s.left (source_of n)) read × Responds g setting (bytes ++ read) (waiting n) world old new result
        at_result (Ok reply) (Ok r) settled answers by =
            let all = handed_none o in
            let out : HandsOut o n [] = subst (λ (c : Conn R s). HandsOut o c []) (sym start) all in (
              out.read,
              out.moves.consumes,
              refused_put g setting in_range at world old new bytes (waiting o) out.read [] (waiting n) (body_left n) h a asks begins out.moves.order (out.left ∙ size ∙ sym long) put plan (planned [] (upload put).0) q repo reply r
                  (λ tail sized. subst (λ (b : List ℕ). AnswersBy g old new world (verdict_by world (target_asked a).repo plan (b ++ tail)) reply) none (answers.answers tail (λ v. absurd (true≢false (sym v)))))
                  refused (ap (λ v. v && (is_err q || not reply.body_read)) put ∙ ap (λ x. is_err x || not reply.body_read) is) by,
            )
        at_result (Ok reply) (Err e) settled answers by = absurd by
        at_result (Err e) result settled answers by = absurd settled

    turned_whole : is_put a.form ≡ false → is_upload_of request ≡ false → IsTurned
    turned_whole none other =
        let rest = settled other in
        let all = subst (λ (c : Conn R s). HandsOut o c part) (sym rest.1) hands in
        let left : body_left n ≡ 0 = ap (λ (c : Conn R s). body_left c) rest.1 ∙ whole none in
        let fits : length part ≡ body_length h = omega (arith, all.left, size, left, long) in
        let unread : more ≡ [] = nil_from_length more (omega (arith, sum, ap (λ (c : Conn R s). body_left c) rest.1)) in (
          all.read,
          all.moves.consumes,
          whole_responds g setting in_range at world old new (bytes ++ all.read) (waiting n) h a part asks
              (λ tail. whole_first bytes (waiting o) all.read h begins part (waiting n) tail all.moves.order fits)
              q repo plan (planned part (sym same)) none (body_left n) done result named
              (subst (λ (b : List ℕ). IsAnsweredAs g false old new world (target_asked a).repo plan b (body_left n) done) unread (answered_as false other (λ v. absurd (true≢false (sym v)))))
              rest.0 by,
        )

    pub turned : IsTurned
    turned = by_form (is_put a.form) refl q refl
      where
        by_form : (v : Bool) → is_put a.form ≡ v → (r : Result Request Rule) → q ≡ r → IsTurned
        by_form true put (Ok x) is = turned_put put (reads_upload a body q request has_read made ∙ ap₂ (λ (u : Bool) (r : Result Request Rule). u && is_ok r) put is) (ap is_err is)
        by_form true put (Err r) is = turned_refused r put (reads_upload a body q request has_read made ∙ ap₂ (λ (u : Bool) (r : Result Request Rule). u && is_ok r) put is) is
        by_form false none r is = turned_whole none (reads_upload a body q request has_read made ∙ ap (λ (u : Bool). u && is_ok q) none)
