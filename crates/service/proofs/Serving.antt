-- A connection, message by message.
use Rattle.service.proofs.Prelude.{◌≡◌, ◌∙◌, ◌+◌, ◌<◌, ℕ, suc, Bool, true, false, List, [], ◌∷◌, ◌++◌, length, take, drop, get_or, map, Option, Some, None, Ok, is_some, option_map, refl, sym, ap, ap₂, subst, append-nil, append_assoc, add-zero, take-append-drop, map-append, Appends, Consumes, Ghosts, World, Object, Setting, Answer, serves, is_store_refusal, reply_of, head_text, Message, message, bad_head, Exchange, Event, exchanged, Run, allow, closes, closes_if, BeginsWith, IsUnfinished, bound_of_run, Session, IsSession, IsWritten, IsPartOf, BreaksInContent, session_text, text_of, text_if, reply_count, appends_both, Holds, Leads, leads_none, run_takes, IsEarly, IsTurn, IsIncomplete, less_than_head, less_than_body, ClosesTurn, EndsTurn, IsServing, IsServed, IsRefusal, IsUnserved, IsLeftOpen, HasNoBadHead, LastRefused, IsClosedAs, closing, end_seen, End, Served}
use Rattle.std.proofs.lemmas.Grind.{flat_map-append}
use Rattle.std.proofs.lemmas.Option.{same_Some}
use Rattle.downloads.specs.declared.download.Download.{Download}
use Rattle.downloads.specs.Downloads.{closes_of}
use Rattle.service.specs.Later.{EndsTurnBut, IsServedBut, LastCloses}
use Rattle.std.proofs.Math.Seq.{drop-cons}
use Rattle.model.specs.Progress.{IsProgress, fresh, with_exchange}
use Rattle.model.specs.Views.{SameViews}
use Rattle.model.specs.Laws.{NoneAsks}
use Rattle.model.specs.Sessions as model
use Rattle.model.proofs.Progress.{run_append, begun, IsNextExchange, goes_on, ends_unfinished, ends_unread, ends_closed, breaks_off}
use Rattle.model.proofs.Apart.{sessions_leave_views}
use Rattle.service.specs.declared.ends.End.TheVariants as end
use Rattle.service.proofs.Messages.{none_unfinished, none_may_become}

appends_none : (was : Option (List ℕ)) → Appends was was []
appends_none None = tt
appends_none (Some xs) = sym (append-nil xs)

-- a proper prefix of a text
pub is_part : (text : List ℕ) (n : ℕ) → n < length text → IsPartOf (take n text) text
is_part text n less = record {
  byte = get_or text n 0;
  rest = drop (suc n) text;
  is = sym (take-append-drop n text) ∙ ap (λ (l : List ℕ). take n text ++ l) (drop-cons text n 0 less);
}

-- one exchange with an answer is one reply
one_reply : (e : Exchange) → is_some e.given ≡ true → reply_count (e ∷ []) ≡ 1
one_reply e some = rw some refl

-- an answer that is or is not a store refusal is an answer
answered_by : (given : Option Answer) → is_some given ≡ is_some (option_map is_store_refusal given)
answered_by None = refl
answered_by (Some a) = refl

-- an exchange without an answer is no reply and writes no text
no_reply : (e : Exchange) → e.given ≡ None → reply_count (e ∷ []) ≡ 0
no_reply e none = rw none refl

no_text : (e : Exchange) → e.given ≡ None → text_of e ≡ []
no_text e none = ap (text_if e.asked) none

-- ---- bytes that were read

-- bytes that were read before others
grouped : (first read more : List ℕ) → first ++ (read ++ more) ≡ (first ++ read) ++ more
grouped first read more = sym (append_assoc first read more)

-- ---- ends without a reply

ends_by : (s : Session) (rest : List ℕ) (old new : World) (e : End) → IsEarly e → IsProgress s rest old new → IsUnfinished rest → IsSession s (end_seen e) old new
ends_by s rest old new end.InputEnded early p less = ends_unfinished s rest old new p less
ends_by s rest old new end.ReadFailed early p less = ends_unread s rest old new p less
ends_by s rest old new end.Closed early p less = absurd early
ends_by s rest old new end.StoreRefused early p less = absurd early
ends_by s rest old new end.WriteFailed early p less = absurd early
ends_by s rest old new end.StoreFailed early p less = absurd early

open_by : (bytes : List ℕ) (exchanges : List Exchange) (e : End) → IsEarly e → IsLeftOpen bytes exchanges → HasNoBadHead bytes exchanges e
open_by bytes exchanges end.InputEnded early is = is
open_by bytes exchanges end.ReadFailed early is = is
open_by bytes exchanges end.Closed early is = absurd early
open_by bytes exchanges end.StoreRefused early is = absurd early
open_by bytes exchanges end.WriteFailed early is = absurd early
open_by bytes exchanges end.StoreFailed early is = absurd early

-- the server did not close the connection
closed_by : (exchanges : List Exchange) (e : End) → IsEarly e → IsClosedAs exchanges e
closed_by exchanges end.InputEnded early = tt
closed_by exchanges end.ReadFailed early = tt
closed_by exchanges end.Closed early = absurd early
closed_by exchanges end.StoreRefused early = absurd early
closed_by exchanges end.WriteFailed early = absurd early
closed_by exchanges end.StoreFailed early = absurd early

-- ---- a reply that breaks off within its content

-- a reply with the content of an object lists no methods
no_methods : (asked : Message) (o : Object) → ◌≡◌ {A = List ℕ} (allow asked (Ok (serves o))) []
no_methods (message head body whole) o = refl
no_methods bad_head o = refl

-- its head
head_served : (e : Exchange) (given : Answer) (o : Object) → e.given ≡ Some given → given ≡ Ok (serves o)
    → head_text (reply_of given) (allow e.asked given) (closes e) ≡ head_text (reply_of (Ok (serves o))) [] (closes e)
head_served e given o gave is =
    ap (λ (a : Answer). head_text (reply_of a) (allow e.asked a) (closes e)) is ∙ ap (λ (m : List ℕ). head_text (reply_of (Ok (serves o))) m (closes e)) (no_methods e.asked o)

-- its whole text
text_served : (e : Exchange) (o : Object) → e.given ≡ Some (Ok (serves o)) → text_of e ≡ head_text (reply_of (Ok (serves o))) [] (closes e) ++ o.bytes
text_served e o is =
    ap (text_if e.asked) is
    ∙ ap₂ (λ (m : List ℕ) (c : Bool). head_text (reply_of (Ok (serves o))) m c ++ o.bytes) (no_methods e.asked o) (sym (ap (closes_if e.asked) is))

-- the head and a prefix of the object are a part of the text
content_part : (e : Exchange) (o : Object) (n : ℕ) → e.given ≡ Some (Ok (serves o)) → n < length o.bytes
    → IsPartOf (head_text (reply_of (Ok (serves o))) [] (closes e) ++ take n o.bytes) (text_of e)
content_part e o n is less =
    let head = head_text (reply_of (Ok (serves o))) [] (closes e) in
    let part = is_part o.bytes n less in
    record {
      byte = part.byte;
      rest = part.rest;
      is = text_served e o is ∙ ap (λ (t : List ℕ). head ++ t) part.is ∙ sym (append_assoc head (take n o.bytes) (part.byte ∷ part.rest));
    }

-- a session that breaks off there, after replies that were written whole
content_breaks : (before : List Exchange) (e : Exchange) (o : Object) (n : ℕ) → e.given ≡ Some (Ok (serves o)) → n < length o.bytes
    → {setting : Setting} (bytes written : List ℕ) (answered : ℕ) → IsWritten (record { setting = setting; bytes = bytes; exchanges = before; written = written; answered = answered })
    → BreaksInContent (record {
      setting = setting;
      bytes = bytes;
      exchanges = before ++ e ∷ [];
      written = written ++ (head_text (reply_of (Ok (serves o))) [] (closes e) ++ take n o.bytes);
      answered = answered;
    })
content_breaks before e o n is less bytes written answered whole =
    let head = head_text (reply_of (Ok (serves o))) [] (closes e) in
    let part = is_part o.bytes n less in
    record {
      before = before;
      last = e;
      object = o;
      part = take n o.bytes;
      order = refl;
      serving = is;
      partial = part;
      written = ap (λ (t : List ℕ). t ++ (head ++ take n o.bytes)) whole.written ∙ sym (append_assoc (session_text before) head (take n o.bytes));
      answered = whole.answered;
    }

-- ---- a session so far, and one more turn

module _ {S : Type 0} (g : Ghosts S) (setting : Setting) (world : World) (was : Option (List ℕ)) where
  pub begins : (waits : List ℕ) (store : S) → waits ≡ [] → Holds g store world → IsServing g setting [] waits world store store was was 0
  begins waits store none holds = record {
    exchanges = [];
    written = [];
    kept = world;
    progress = λ more. subst (λ (w : List ℕ). IsProgress (fresh setting more) (w ++ more) world world) (sym none) (begun setting more world);
    taken = appends_none was;
    leads = leads_none g store world holds;
  }

  module _ (bytes waits read next : List ℕ) (old mid new : S) (is more_is : Option (List ℕ)) (answered : ℕ) (s : IsServing g setting bytes waits world old mid was is answered) where
    -- the session so far, if it has read these bytes
    abbrev so_far : List ℕ → List Exchange → List ℕ → ℕ → Session
    so_far all exchanges written answered =
        record { setting = setting; bytes = all; exchanges = exchanges; written = written; answered = answered }

    -- the session so far, after the bytes of one more read
    now : IsProgress (so_far (bytes ++ read) s.exchanges s.written answered) (waits ++ read) world s.kept
    now = s.progress read

    next_exchange : (rest after : List ℕ) (e : Exchange) (kept : World) → BeginsWith rest e.asked after → IsTurn g setting s.kept mid new e kept
        → (all : List ℕ) → IsNextExchange (so_far all s.exchanges s.written answered) rest after e s.kept kept
    next_exchange rest after e kept begins turn all = record { begins = begins; under = turn.under; step = turn.takes.step }

    leads_on : (exchanges : List Exchange) (kept : World) → Run world (map exchanged exchanges) kept
        → (start : World) (before : List Event) → Run start before world → Run start (before ++ map exchanged exchanges) kept
    leads_on exchanges kept run start before ran = run_append start world kept before (map exchanged exchanges) ran run

    apart_by : (exchanges : List Exchange) (kept : World) → Run world (map exchanged exchanges) kept
        → (repo : List ℕ) → NoneAsks repo exchanges → SameViews repo world kept
    apart_by exchanges kept run repo none = sessions_leave_views world exchanges kept repo run none

    -- the worlds that a stop leaves after one more message
    leads_one : (e : Exchange) (kept : World) → IsTurn g setting s.kept mid new e kept
        → Leads g old new kept (bound_of_run world (map exchanged (s.exchanges ++ e ∷ [])))
    leads_one e kept turn =
        subst (λ (events : List Event). Leads g old new kept (bound_of_run world events)) (sym (map-append exchanged s.exchanges (e ∷ [])))
        (run_takes g old mid new world s.kept kept (map exchanged s.exchanges) (exchanged e) now.run s.leads turn.takes)

    -- one more message
    pub answers : EndsTurn g setting (waits ++ read) next s.kept mid new is more_is None → IsServing g setting (bytes ++ read) next world old new was more_is (answered + 1)
    answers (e, kept, turn, first, some, stays, sent) = record {
      exchanges = s.exchanges ++ e ∷ [];
      written = s.written ++ text_of e;
      kept = kept;
      progress = λ more.
          let before : IsProgress (so_far ((bytes ++ read) ++ more) s.exchanges s.written answered) ((waits ++ read) ++ more) world s.kept =
          subst (λ (all : List ℕ). IsProgress (so_far all s.exchanges s.written answered) ((waits ++ read) ++ more) world s.kept) (grouped bytes read more)
          (subst (λ (rest : List ℕ). IsProgress (so_far (bytes ++ (read ++ more)) s.exchanges s.written answered) rest world s.kept) (grouped waits read more) (s.progress (read ++ more))) in
          subst (λ (k : ℕ). IsProgress (so_far ((bytes ++ read) ++ more) (s.exchanges ++ e ∷ []) (s.written ++ text_of e) (answered + k)) (next ++ more) world kept) (one_reply e some)
          (goes_on (so_far ((bytes ++ read) ++ more) s.exchanges s.written answered) ((waits ++ read) ++ more) (next ++ more) world s.kept kept e before
          (next_exchange ((waits ++ read) ++ more) (next ++ more) e kept (first more) turn ((bytes ++ read) ++ more)) stays);
      taken = appends_both was is more_is s.written (text_of e) s.taken sent;
      leads = leads_one e kept turn;
    }

    -- the input ends or fails, with no complete message left
    ends_early : (how : End) → IsEarly how → IsIncomplete g setting (waits ++ read) s.kept mid new → more_is ≡ is
        → IsServed g setting (bytes ++ read) world old new was more_is (record { answered = answered; end = how })
    ends_early how early (less_than_head less may still) same = record {
      exchanges = s.exchanges;
      written = s.written;
      kept = s.kept;
      session = ends_by (so_far (bytes ++ read) s.exchanges s.written answered) (waits ++ read) world s.kept how early now less;
      bad_head = open_by (bytes ++ read) s.exchanges how early (waits ++ read, now.leads, may);
      closed = closed_by s.exchanges how early;
      taken = subst (λ (o : Option (List ℕ)). Appends was o s.written) (sym same) s.taken;
      leads = record { holds = still.holds; left = λ bound was. still.left (bound_of_run world (map exchanged s.exchanges) bound) (s.leads.left bound was) };
      run = leads_on s.exchanges s.kept now.run;
      apart = apart_by s.exchanges s.kept now.run;
    }
    ends_early how early (less_than_body e kept turn begins none) same =
        let all = bytes ++ read in
        let stays = ap (closes_if e.asked) none in
        let progress = goes_on (so_far all s.exchanges s.written answered) (waits ++ read) [] world s.kept kept e now (next_exchange (waits ++ read) [] e kept begins turn all) stays in
        let counted : answered + reply_count (e ∷ []) ≡ answered = ap (λ k. answered + k) (no_reply e none) ∙ add-zero answered in
        let said : s.written ++ text_of e ≡ s.written = ap (λ (t : List ℕ). s.written ++ t) (no_text e none) ∙ append-nil s.written in
        let session = ends_by (with_exchange e (so_far all s.exchanges s.written answered)) [] world kept how early progress none_unfinished in
        record {
          exchanges = s.exchanges ++ e ∷ [];
          written = s.written;
          kept = kept;
          session = subst (λ (k : ℕ). IsSession (so_far all (s.exchanges ++ e ∷ []) s.written k) (end_seen how) world kept) counted
              (subst (λ (t : List ℕ). IsSession (so_far all (s.exchanges ++ e ∷ []) t (answered + reply_count (e ∷ []))) (end_seen how) world kept) said session);
          bad_head = open_by all (s.exchanges ++ e ∷ []) how early ([], progress.leads, none_may_become);
          closed = closed_by (s.exchanges ++ e ∷ []) how early;
          taken = subst (λ (o : Option (List ℕ)). Appends was o s.written) (sym same) s.taken;
          leads = leads_one e kept turn;
          run = leads_on (s.exchanges ++ e ∷ []) kept progress.run;
          apart = apart_by (s.exchanges ++ e ∷ []) kept progress.run;
        }

    -- the server closes the connection
    shuts : (how : End) (refused : Bool) → end_seen how ≡ model.Closed
        → ((exchanges : List Exchange) → LastRefused exchanges refused → HasNoBadHead (bytes ++ read) exchanges how × IsClosedAs exchanges how)
        → ClosesTurn g setting (waits ++ read) s.kept mid new is more_is refused
        → IsServed g setting (bytes ++ read) world old new was more_is (record { answered = answered + 1; end = how })
    shuts how refused seen closed (e, kept, turn, (rest, begins), said, shut, sent) =
        let all = bytes ++ read in
        let session = ends_closed (so_far all s.exchanges s.written answered) (waits ++ read) rest world s.kept kept e now (next_exchange (waits ++ read) rest e kept begins turn all) shut in
        let last : LastRefused (s.exchanges ++ e ∷ []) refused = (s.exchanges, e, refl, said) in
        record {
          exchanges = s.exchanges ++ e ∷ [];
          written = s.written ++ text_of e;
          kept = kept;
          session = subst (λ (m : model.End). IsSession (so_far all (s.exchanges ++ e ∷ []) (s.written ++ text_of e) (answered + 1)) m world kept) (sym seen)
              (subst (λ (k : ℕ). IsSession (so_far all (s.exchanges ++ e ∷ []) (s.written ++ text_of e) (answered + k)) model.Closed world kept) (one_reply e (answered_by e.given ∙ ap is_some said)) session);
          bad_head = (closed (s.exchanges ++ e ∷ []) last).0;
          closed = (closed (s.exchanges ++ e ∷ []) last).1;
          taken = appends_both was is more_is s.written (text_of e) s.taken sent;
          leads = leads_one e kept turn;
          run = leads_on (s.exchanges ++ e ∷ []) kept session.run;
          apart = apart_by (s.exchanges ++ e ∷ []) kept session.run;
        }

    -- a write fails
    breaks : EndsTurn g setting (waits ++ read) next s.kept mid new is more_is (Some end.WriteFailed)
        → IsServed g setting (bytes ++ read) world old new was more_is (record { answered = answered; end = end.WriteFailed })
    breaks (e, kept, turn, (rest, begins), (n, began)) =
        let all = bytes ++ read in
        let part = take n (text_of e) in
        let session = breaks_off (so_far all s.exchanges s.written answered) (waits ++ read) rest world s.kept kept e part now (next_exchange (waits ++ read) rest e kept begins turn all) (is_part (text_of e) n began.less) in
        record {
          exchanges = s.exchanges ++ e ∷ [];
          written = s.written ++ part;
          kept = kept;
          session = session;
          bad_head = tt;
          closed = tt;
          taken = appends_both was is more_is s.written part s.taken began.taken;
          leads = leads_one e kept turn;
          run = leads_on (s.exchanges ++ e ∷ []) kept session.run;
          apart = apart_by (s.exchanges ++ e ∷ []) kept session.run;
        }

    -- the store fails within the content of an object
    fails : EndsTurn g setting (waits ++ read) next s.kept mid new is more_is (Some end.StoreFailed)
        → IsServed g setting (bytes ++ read) world old new was more_is (record { answered = answered; end = end.StoreFailed })
    fails (e, kept, turn, (rest, begins), (given, gave, broke)) =
        let all = bytes ++ read in
        let o = broke.object in
        let serving : e.given ≡ Some (Ok (serves o)) = gave ∙ ap Some broke.serving in
        let head = head_text (reply_of (Ok (serves o))) [] (closes e) in
        let part = head ++ take broke.written o.bytes in
        let session = breaks_off (so_far all s.exchanges s.written answered) (waits ++ read) rest world s.kept kept e part now (next_exchange (waits ++ read) rest e kept begins turn all)
        (content_part e o broke.written serving broke.less) in
        record {
          exchanges = s.exchanges ++ e ∷ [];
          written = s.written ++ part;
          kept = kept;
          session = record { ends = (session.ends.0, content_breaks s.exchanges e o broke.written serving broke.less all s.written answered now.written); under = session.under; run = session.run };
          bad_head = tt;
          closed = tt;
          taken = appends_both was is more_is s.written part s.taken (subst (λ (t : List ℕ). Appends is more_is (t ++ take broke.written o.bytes)) (head_served e given o gave broke.serving) broke.taken);
          leads = leads_one e kept turn;
          run = leads_on (s.exchanges ++ e ∷ []) kept session.run;
          apart = apart_by (s.exchanges ++ e ∷ []) kept session.run;
        }

    none_more : (how : End) → IsServed g setting (bytes ++ read) world old new was more_is (record { answered = answered; end = how })
        → IsServed g setting (bytes ++ read) world old new was more_is (record { answered = answered + 0; end = how })
    none_more how is = subst (λ (k : ℕ). IsServed g setting (bytes ++ read) world old new was more_is (record { answered = k; end = how })) (sym (add-zero answered)) is

    -- the connection ends, with one more reply if the server closes it
    pub ends : (how : End) → EndsTurn g setting (waits ++ read) next s.kept mid new is more_is (Some how)
        → IsServed g setting (bytes ++ read) world old new was more_is (record { answered = answered + closing how; end = how })
    ends end.InputEnded (left, same) = none_more end.InputEnded (ends_early end.InputEnded tt left same)
    ends end.ReadFailed (left, same) = none_more end.ReadFailed (ends_early end.ReadFailed tt left same)
    ends end.Closed turn = shuts end.Closed false refl (λ exchanges last. (tt, last)) turn
    ends end.StoreRefused turn = shuts end.StoreRefused true refl (λ exchanges last. (tt, last)) turn
    ends end.WriteFailed turn = none_more end.WriteFailed (breaks turn)
    ends end.StoreFailed turn = none_more end.StoreFailed (fails turn)

    -- the connection goes on, so that no content is left to be sent
    pub answers_but : (later : Option Download) → later ≡ None → EndsTurnBut g setting (waits ++ read) next s.kept mid new is more_is later None
        → IsServing g setting (bytes ++ read) next world old new was more_is (answered + 1)
    answers_but later none turn =
        answers (subst (λ (l : Option Download). EndsTurnBut g setting (waits ++ read) next s.kept mid new is more_is l None) none turn)

    -- the connection ends, and the content of an object is left to be sent
    owes : (d : Download) → (turn : EndsTurn g setting (waits ++ read) next s.kept mid new is more_is (Some end.StoreFailed))
        → turn.4.2.written ≡ 0
        → (fails turn).written ++ turn.4.2.object.bytes ≡ session_text (fails turn).exchanges
    unfolding fails
    owes d (e, kept, turn, (rest, first), (given, gave, broke)) none =
        let o = broke.object in
        let head = head_text (reply_of (Ok (serves o))) [] (closes e) in
        let serving : e.given ≡ Some (Ok (serves o)) = gave ∙ ap Some broke.serving in
        ap (λ n. (s.written ++ (head ++ take n o.bytes)) ++ o.bytes) none
        ∙ ap (λ (t : List ℕ). (s.written ++ t) ++ o.bytes) (append-nil head)
        ∙ append_assoc s.written head o.bytes
        ∙ ap₂ ◌++◌ now.written.written (sym (text_served e o serving ∙ refl) ∙ sym (append-nil (text_of e)))
        ∙ sym (flat_map-append text_of s.exchanges (e ∷ []))

    -- the last reply says whether the connection is closed after it
    last_closes : (d : Download) → (turn : EndsTurn g setting (waits ++ read) next s.kept mid new is more_is (Some end.StoreFailed))
        → closes_of d ≡ closes turn.0 → LastCloses (fails turn).exchanges (closes_of d)
    unfolding fails
    last_closes d (e, kept, turn, (rest, first), (given, gave, broke)) same = (s.exchanges, e, refl, sym same)

    pub ends_but : (how : End) (later : Option Download) → EndsTurnBut g setting (waits ++ read) next s.kept mid new is more_is later (Some how)
        → IsServedBut g setting (bytes ++ read) world old new was more_is later (record { answered = answered + closing how; end = how })
    unfolding fails
    ends_but how None turn = record { served_so = ends how turn; owes = tt }
    ends_but how (Some d) it =
        let how_is : how ≡ end.StoreFailed = same_Some how end.StoreFailed it.0 in
        subst (λ (h : End). IsServedBut g setting (bytes ++ read) world old new was more_is (Some d) (record { answered = answered + closing h; end = h })) (sym how_is)
        (subst (λ (k : ℕ). IsServedBut g setting (bytes ++ read) world old new was more_is (Some d) (record { answered = k; end = end.StoreFailed })) (sym (add-zero answered))
        (record { served_so = fails it.1; owes = (it.1.4.2.object, it.2, owes d it.1 it.3, last_closes d it.1 it.4) }))

-- there was no memory for the connection
pub unserved : {S : Type 0} (g : Ghosts S) (setting : Setting) (world : World) (store : S) (was is : Option (List ℕ)) (served : Served) → IsRefusal was is served → Holds g store world
    → IsUnserved g setting world store store was is served
unserved g setting world store was is served r holds = record {
  written = r.written;
  session = record { bytes = refl; exchanges = refl; same = refl; writes = r.writes setting };
  refused = r.refused;
  taken = r.taken;
  leads = leads_none g store world holds;
}
