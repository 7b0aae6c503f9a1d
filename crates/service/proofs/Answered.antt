-- A reply is sent.
use Rattle.service.proofs.Prelude.{◌≡◌, ◌∙◌, ℕ, Bool, true, false, List, [], ◌++◌, MatchBool, Option, Some, None, is_some, option_map, sym, ap, ap₂, subst, Appends, Ghosts, World, Setting, Answer, is_store_refusal, bound_after, Exchange, exchanged, closes, closes_if, allow, reply_text, text_of, text_if, BeginsWith, IsBeginning, leads_then, leads_still, BreaksOff, IsEarly, IsFirst, IsIncomplete, IsResponse, IsSent, EndsReply, IsTurn, ClosesTurn, EndsTurn, End, Response, is_refused}
use Rattle.store.specs.Shown.{Moves, AddsNothing}
use Rattle.service.specs.declared.ends.End.TheVariants.{InputEnded, Closed, StoreRefused, ReadFailed, WriteFailed, StoreFailed}
use Rattle.desk.proofs.Told.{refused_is}
use Rattle.service.proofs.Responses.{begins_now}

-- ---- the text and the content of a reply

-- the text of the reply to the answer of an exchange
text_is : (e : Exchange) (given : Answer) (methods : List ℕ) (close : Bool) → e.given ≡ Some given → methods ≡ allow e.asked given → closes e ≡ close → reply_text given methods close ≡ text_of e
text_is e given methods close is named shut =
    ap₂ (λ (m : List ℕ) (c : Bool). reply_text given m c) named (sym shut ∙ ap (closes_if e.asked) is) ∙ sym (ap (text_if e.asked) is)

-- ---- a response that was sent

module _ {S : Type 0} (g : Ghosts S) (setting : Setting) (bytes next : List ℕ) (world : World) (old mid new : S) (was is : Option (List ℕ)) where
  -- what begins the bytes, after which the connection closes or goes on
  closed_at : (e : Exchange) (close : Bool) → close ≡ true → MatchBool close ((rest : List ℕ) × BeginsWith bytes e.asked rest) (IsFirst bytes e next) → (rest : List ℕ) × BeginsWith bytes e.asked rest
  closed_at e close shut begins = rw shut at begins

  open_at : (e : Exchange) (close : Bool) → close ≡ false → MatchBool close ((rest : List ℕ) × BeginsWith bytes e.asked rest) (IsFirst bytes e next) → IsFirst bytes e next
  open_at e close stays begins = rw stays at begins

  pub begun_at : (e : Exchange) (close : Bool) → MatchBool close ((rest : List ℕ) × BeginsWith bytes e.asked rest) (IsFirst bytes e next) → (rest : List ℕ) × BeginsWith bytes e.asked rest
  begun_at e true begins = begins
  begun_at e false first = (next ++ [], begins_now bytes next e first)

  -- the turn, after the store was only read
  pub turn_then : (e : Exchange) (kept : World) → IsTurn g setting world old mid e kept → Moves g (λ t. t) mid new → AddsNothing g mid new → IsTurn g setting world old new e kept
  turn_then e kept turn same adds = record {
    under = turn.under;
    takes = record {
      step = turn.takes.step;
      leads = leads_then g old mid new kept kept (bound_after world (exchanged e)) (λ bound. bound) turn.takes.leads (leads_still g mid new kept same adds turn.takes.leads.holds);
    };
  }

  -- a response after which the connection closes
  closed : (r : Response) (a : IsResponse g setting bytes next world old mid r) → Moves g (λ t. t) mid new → AddsNothing g mid new → r.close ≡ true
      → Appends was is (reply_text a.given r.allow.now r.close) → ClosesTurn g setting bytes world old new was is (is_refused r.reply)
  closed r a same adds shut s =
      let text = text_is a.e a.given r.allow.now r.close a.is a.methods a.closes in (
        a.e,
        a.kept,
        turn_then a.e a.kept a.turn same adds,
        closed_at a.e r.close shut a.begins,
        ap (option_map is_store_refusal) a.is ∙ ap Some (sym (refused_is a.given r.reply a.is_reply)),
        a.closes ∙ shut,
        subst (λ (t : List ℕ). Appends was is t) text s,
      )

  pub sent : (r : Response) (end : Option End) → (a : IsResponse g setting bytes next world old mid r) → Moves g (λ t. t) mid new → AddsNothing g mid new → EndsReply r.close (is_refused r.reply) end
      → IsSent was is a.given r.allow.now r.close end → EndsTurn g setting bytes next world old new was is end
  sent r None a same adds shut s =
      let text = text_is a.e a.given r.allow.now r.close a.is a.methods a.closes in (
        a.e,
        a.kept,
        turn_then a.e a.kept a.turn same adds,
        open_at a.e r.close shut a.begins,
        ap is_some a.is,
        a.closes ∙ shut,
        subst (λ (t : List ℕ). Appends was is t) text s,
      )
  sent r (Some Closed) a same adds shut s =
      subst (ClosesTurn g setting bytes world old new was is) shut.1 (closed r a same adds shut.0 s)
  sent r (Some StoreRefused) a same adds shut s =
      subst (ClosesTurn g setting bytes world old new was is) shut.1 (closed r a same adds shut.0 s)
  sent r (Some WriteFailed) a same adds shut s =
      let text = text_is a.e a.given r.allow.now r.close a.is a.methods a.closes in
      (a.e, a.kept, turn_then a.e a.kept a.turn same adds, begun_at a.e r.close a.begins, (s.0, subst (λ (t : List ℕ). IsBeginning was is t s.0) text s.1))
  sent r (Some StoreFailed) a same adds shut s = (
    a.e,
    a.kept,
    turn_then a.e a.kept a.turn same adds,
    begun_at a.e r.close a.begins,
    (a.given, a.is, subst (λ (m : List ℕ). BreaksOff a.given m (closes a.e) was is) a.methods (subst (λ (c : Bool). BreaksOff a.given r.allow.now c was is) (sym a.closes) s)),
  )
  sent r (Some InputEnded) a same adds shut s = absurd s
  sent r (Some ReadFailed) a same adds shut s = absurd s

module _ {S : Type 0} (g : Ghosts S) (setting : Setting) (bytes next : List ℕ) (world : World) (old new : S) (was is : Option (List ℕ)) where
  -- a message that is not whole is not answered
  pub unanswered : (how : End) → IsEarly how → is ≡ was → IsIncomplete g setting bytes world old new → EndsTurn g setting bytes next world old new was is (Some how)
  unanswered InputEnded early same left = (left, same)
  unanswered ReadFailed early same left = (left, same)
  unanswered Closed early same left = absurd early
  unanswered StoreRefused early same left = absurd early
  unanswered WriteFailed early same left = absurd early
  unanswered StoreFailed early same left = absurd early
