-- An upload under way: what its bytes ask, and the answer to all of them.
use Rattle.service.proofs.Prelude.{◌≡◌, ◌∙◌, ◌+◌, ◌&&◌, ◌≤◌, ℕ, Bool, true, false, List, [], ◌++◌, length, Option, Some, None, is_some, option_map, Result, Ok, Err, OnOk, is_err, is_ok, refl, sym, ap, ap₂, subst, arith, append-nil, Bor, Ghosts, RepoName, World, Setting, IsPolicy, last_moment, Answer, is_store_refusal, desk_plan, body_length, Exchange, closes, text_of, Appends, BeginsWith, head_more, request_seen, is_upload_of, IsAnsweredAs, Asks, IsReadFrom, IsRequestOf, is_put, target_asked, RespondsWith, Asked, Response, Reply, Request, Rule, RepoRequest, StoreFault, From, Keeps, IsResponse, EndsReply, EndsTurn, End}
use Rattle.std.specs.Prelude.{⊤}
use Rattle.std.specs.Result.{result_ok}
use Rattle.refinement.proofs.Leading.{keeps_then}
use Rattle.desk.specs.Receiving.{IsReceiving}
use Rattle.desk.specs.declared.slices.Receiving.{Receiving}
use Rattle.service.specs.Uploads.{IsPut, IsPutAnswered, IsUnderWay}
use Rattle.service.specs.declared.ends.End.TheVariants.{InputEnded, Closed, StoreRefused, ReadFailed, WriteFailed, StoreFailed}
use Rattle.service.specs.declared.underway.Upload.{Upload}
use Rattle.service.proofs.Messages.{body_is}
use Rattle.service.proofs.Plans.{IsNamed, made_as, reads_upload}
use Rattle.service.proofs.Responses.{begins_now, put_responds}

-- more bytes of the same message
pub put_more : (a : Asked) (q : Result Request Rule) (bytes part more : List ℕ) → IsPut a q bytes part → IsPut a q (bytes ++ more) (part ++ more)
put_more a q bytes part more p = record {
  head = p.head;
  begins = head_more bytes p.head part more p.begins;
  asks = p.asks;
  put = p.put;
  read = p.read;
  taken = p.taken;
}

no_error : {T E : Type 0} (q : Result T E) → is_err q ≡ false → is_ok q ≡ true
no_error (Ok x) none = refl
no_error (Err e) none = absurd (cc)

-- if none of it is left, all of it has arrived
pub all_there : (left arrived size : ℕ) → arrived + left ≡ size → left ≡ 0 → size ≡ arrived
all_there left arrived size sum none = omega (arith, sum, none)

-- the request that it makes is an upload
pub uploads_it : (a : Asked) (q : Result Request Rule) (request : RepoRequest) (bytes part : List ℕ) → IsPut a q bytes part → IsRequestOf a q request → is_upload_of request ≡ true
uploads_it a q request bytes part p made =
    reads_upload a [] q request p.read made ∙ ap₂ (λ (u v : Bool). u && v) p.put (no_error q p.taken)

module _ {S : Type 0} (g : Ghosts S) where
  -- a piece was taken
  pub piece_taken : (a b : S) (u v : Upload) (bytes piece : List ℕ) (world : World) (r : Result ⊤ StoreFault) → v.asked ≡ u.asked → v.request ≡ u.request → v.receiving.size ≡ u.receiving.size
      → ((part : List ℕ) → IsReceiving g a u.receiving part → Keeps g a b world × OnOk r (IsReceiving g b v.receiving (part ++ piece)))
      → IsUnderWay g a u bytes → Keeps g a b world × OnOk r (IsUnderWay g b v (bytes ++ piece))
  piece_taken a b u v bytes piece world (Ok x) asked request size done under =
      let it = done under.part under.arrived in (
        it.0,
        record {
          part = under.part ++ piece;
          message = rw (asked, request) (put_more u.asked u.request bytes under.part piece under.message);
          arrived = it.1;
          size = size ∙ under.size ∙ sym (ap (λ (x : Asked). x.size) asked);
        },
      )
  piece_taken a b u v bytes piece world (Err e) asked request size done under = ((done under.part under.arrived).0, tt)

  -- the response to the whole message
  pub put_response : (setting : Setting) → IsPolicy setting.policy → setting.now ≤ last_moment → (world : World) (old new : S) (bytes part : List ℕ) (a : Asked) (q : Result Request Rule) (request : RepoRequest)
      → IsPut a q bytes part → IsRequestOf a q request → length part ≡ a.size → (name : Option (Bor RepoName)) → IsNamed setting a name → (reply : Reply) (r : Response) → RespondsWith a q name reply r
      → IsAnsweredAs g true old new world (target_asked a).repo (desk_plan world setting (request_seen request (length part))) part 0 (Ok reply)
      → IsResponse g setting bytes [] world old new r
  put_response setting in_range at world old new bytes part a q request p made size name named reply r by answers =
      let long = body_is p.head (target_asked a) p.asks.target in
      let says = p.asks.size in
      let sized : length part + 0 ≡ body_length p.head = omega (arith, size, says, long) in
      let plan = desk_plan world setting (request_seen request (length part)) in
      let planned = ap (desk_plan world setting) (made_as p.head a [] (length part) q request p.asks p.read made (size ∙ says)) in
      subst (λ (b : List ℕ). IsResponse g setting b [] world old new r) (append-nil bytes)
      (put_responds g setting in_range at world old new bytes part [] part [] 0 p.head a p.asks p.begins refl sized p.put plan planned q name (Ok reply) (Ok r) named answers tt p.taken by)

  -- a refusal or another reply is an answer
  is_answered : (given : Option Answer) (refused : Bool) → option_map is_store_refusal given ≡ Some refused → is_some given ≡ true
  is_answered None refused is = absurd (cc)
  is_answered (Some a) refused is = refl

  -- the reply was written
  pub put_ended : (setting : Setting) (bytes : List ℕ) (world : World) (old new : S) (was is : Option (List ℕ)) (close refused : Bool) (end : Option End)
      → EndsReply close refused end → EndsTurn g setting bytes [] world old new was is end → IsPutAnswered g setting bytes world old new was is end
  put_ended setting bytes world old new was is close refused None ends (e, kept, turn, first, some, stays, sent) =
      record { e = e; kept = kept; turn = turn; begins = ([] ++ [], begins_now bytes [] e first); replied = (some, stays, sent) }
  put_ended setting bytes world old new was is close refused (Some Closed) ends (e, kept, turn, begins, said, shut, sent) =
      record { e = e; kept = kept; turn = turn; begins = begins; replied = (is_answered e.given false said, shut, sent) }
  put_ended setting bytes world old new was is close refused (Some StoreRefused) ends (e, kept, turn, begins, said, shut, sent) =
      record { e = e; kept = kept; turn = turn; begins = begins; replied = (is_answered e.given true said, shut, sent) }
  put_ended setting bytes world old new was is close refused (Some WriteFailed) ends (e, kept, turn, begins, part) =
      record { e = e; kept = kept; turn = turn; begins = begins; replied = tt }
  put_ended setting bytes world old new was is close refused (Some StoreFailed) ends (e, kept, turn, begins, part) =
      record { e = e; kept = kept; turn = turn; begins = begins; replied = tt }
  put_ended setting bytes world old new was is close refused (Some InputEnded) ends turn = absurd ends
  put_ended setting bytes world old new was is close refused (Some ReadFailed) ends turn = absurd ends

  -- an upload was begun, and its first bytes were taken, or not
  pub begun_taken : (a b c : S) (r q : Receiving) (part : List ℕ) (result : Result ⊤ StoreFault) → From g a b (Keeps g a b) → From g a b (λ world. IsReceiving g b r [])
      → From g b c (λ world. (bytes : List ℕ) → IsReceiving g b r bytes → Keeps g b c world × OnOk result (IsReceiving g c q (bytes ++ part)))
      → From g a c (λ world. Keeps g a c world × OnOk result (IsReceiving g c q part))
  begun_taken a b c r q part result kept begun taken = record {
    honest = λ k. kept.honest (taken.honest k);
    each = λ k world h.
        let before = kept.each (taken.honest k) world h in
        let it = taken.each k world before.holds [] (begun.each (taken.honest k) world h) in (keeps_then g a b c world before it.0, it.1);
  }

-- what holds after a call that succeeded
pub succeeded : {A : Type 0} (r : Result ⊤ StoreFault) (x : ⊤) → Some x ≡ result_ok r → OnOk r A → A
succeeded (Ok y) x is all = all
succeeded (Err e) x is all = absurd (cc)
