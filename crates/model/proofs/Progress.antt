-- How a session continues, and how it ends.
use Rattle.std.proofs.Common.{◌≡◌, ℕ, ◌+◌, Bool, true, false, MatchBool, List, [], ◌∷◌, ◌++◌, map, refl, sym, ap, subst, ◌∙◌, append_assoc, append-nil}
use Rattle.std.specs.Prelude.{is_some, cond}
use Rattle.std.proofs.lemmas.List.Sums.{sum_by-append}
use Rattle.std.specs.Bool.{⊤}
use Rattle.std.specs.List.{AllByRecursion}
use Rattle.std.proofs.lemmas.List.{map-append}
use Rattle.std.proofs.lemmas.List.Elements.{recursion_from_All, All-from_recursion}
use Rattle.model.specs.World.{World}
use Rattle.model.specs.Cases.{Setting}
use Rattle.model.specs.Steps.{Exchange, Event, exchanged, IsExchange, Run, closes}
use Rattle.model.specs.Stream.{Ended, input_ended, closed, Answers, AnswersFirst, BeginsWith, IsUnfinished}
use Rattle.model.specs.Sessions.{Session, AreUnder, IsWritten, InputEnded, ReadFailed, Closed, WriteFailed, IsSession, IsPartOf, session_text, text_of, reply_count}
use Rattle.model.specs.Progress.{LeadsTo, IsProgress, fresh, with_exchange}

pub run_append : (old mid new : World) (before after : List Event) → Run old before mid → Run mid after new → Run old (before ++ after) new
run_append old mid new [] after a b = subst (λ (w : World). Run w after new) a b
run_append old mid new (e ∷ before) after a b = (a.0, a.1, run_append a.0 mid new before after a.2 b)

pub run_one : (old mid new : World) (exchanges : List Exchange) (e : Exchange) → Run old (map exchanged exchanges) mid → IsExchange mid e new
    → Run old (map exchanged (exchanges ++ e ∷ [])) new
run_one old mid new exchanges e a b =
    subst (λ (events : List Event). Run old events new) (sym (map-append exchanged exchanges (e ∷ [])))
    (run_append old mid new (map exchanged exchanges) (exchanged e ∷ []) a (new, b, refl))

-- the text of one more exchange
pub text_one : (exchanges : List Exchange) (e : Exchange) → session_text (exchanges ++ e ∷ []) ≡ session_text exchanges ++ text_of e
text_one [] e = append-nil (text_of e)
text_one (f ∷ exchanges) e = ap (λ t. text_of f ++ t) (text_one exchanges e) ∙ sym (append_assoc (text_of f) (session_text exchanges) (text_of e))

under_one : (setting : Setting) (exchanges : List Exchange) (e : Exchange) → AllByRecursion (λ f. f.setting ≡ setting) exchanges → e.setting ≡ setting
    → AllByRecursion (λ f. f.setting ≡ setting) (exchanges ++ e ∷ [])
under_one setting [] e a b = (b, tt)
under_one setting (f ∷ exchanges) e a b = (a.0, under_one setting exchanges e a.1 b)

under_more : (setting : Setting) (exchanges : List Exchange) (e : Exchange) → AreUnder setting exchanges → e.setting ≡ setting
    → AreUnder setting (exchanges ++ e ∷ [])
under_more setting exchanges e a b =
    All-from_recursion (λ f. f.setting ≡ setting) (exchanges ++ e ∷ []) (under_one setting exchanges e (recursion_from_All (λ f. f.setting ≡ setting) exchanges a) b)

leads_one : (bytes rest next : List ℕ) (exchanges : List Exchange) (e : Exchange) → LeadsTo bytes exchanges rest → BeginsWith rest e.asked next → closes e ≡ false
    → LeadsTo bytes (exchanges ++ e ∷ []) next
leads_one bytes rest next [] e same begins stays =
    (next, subst (λ (b : List ℕ). BeginsWith b e.asked next) same begins, stays, refl)
leads_one bytes rest next (f ∷ exchanges) e leads begins stays =
    (leads.0, leads.1, leads.2, leads_one leads.0 rest next exchanges e leads.3 begins stays)

-- what answers the rest answers the whole, after the exchanges that led there
pub answers_on : (bytes rest : List ℕ) (exchanges more : List Exchange) (end : Ended) → LeadsTo bytes exchanges rest → Answers rest more end
    → Answers bytes (exchanges ++ more) end
answers_on bytes rest [] more end same a = subst (λ (b : List ℕ). Answers b more end) same a
answers_on bytes rest (e ∷ exchanges) more end leads a =
    (leads.0, leads.1, rw leads.2 (answers_on leads.0 rest exchanges more end leads.3 a))

-- one more exchange answers the first messages
pub first_one : (bytes rest next : List ℕ) (exchanges : List Exchange) (e : Exchange) → LeadsTo bytes exchanges rest → BeginsWith rest e.asked next
    → AnswersFirst bytes (exchanges ++ e ∷ [])
first_one bytes rest next [] e same begins =
    (next, subst (λ (b : List ℕ). BeginsWith b e.asked next) same begins, last_one (closes e))
  where
    last_one : (v : Bool) → MatchBool v (◌≡◌ {A = List Exchange} [] []) ⊤
    last_one true = refl
    last_one false = tt
first_one bytes rest next (f ∷ exchanges) e leads begins =
    (leads.0, leads.1, rw leads.2 (first_one leads.0 rest next exchanges e leads.3 begins))

-- the replies of one more exchange
pub count_one : (exchanges : List Exchange) (e : Exchange) → reply_count (exchanges ++ e ∷ []) ≡ reply_count exchanges + reply_count (e ∷ [])
count_one exchanges e = sum_by-append (λ f. cond (is_some f.given) 1 0) exchanges (e ∷ [])

pub written_one : (s : Session) (e : Exchange) → IsWritten s → IsWritten (with_exchange e s)
written_one s e w = record {
  written = ap (λ (t : List ℕ). t ++ text_of e) w.written ∙ sym (text_one s.exchanges e);
  answered = ap (λ (n : ℕ). n + reply_count (e ∷ [])) w.answered ∙ sym (count_one s.exchanges e);
}

-- ---- a session so far

pub begun : (setting : Setting) (bytes : List ℕ) (world : World) → IsProgress (fresh setting bytes) bytes world world
begun setting bytes world = record {
  leads = refl;
  under = All-from_recursion (λ (f : Exchange). f.setting ≡ setting) [] tt;
  run = refl;
  written = record { written = refl; answered = refl };
}

-- one more exchange, from one world to another
pub record IsNextExchange (s : Session) (rest next : List ℕ) (e : Exchange) (mid new : World) : Type 0 where
  pub begins : BeginsWith rest e.asked next
  pub under : e.setting ≡ s.setting
  pub step : IsExchange mid e new

-- the connection stays open after it
pub goes_on : (s : Session) (rest next : List ℕ) (old mid new : World) (e : Exchange)
    → IsProgress s rest old mid → IsNextExchange s rest next e mid new → closes e ≡ false → IsProgress (with_exchange e s) next old new
goes_on s rest next old mid new e p more stays = record {
  leads = leads_one s.bytes rest next s.exchanges e p.leads more.begins stays;
  under = under_more s.setting s.exchanges e p.under more.under;
  run = run_one old mid new s.exchanges e p.run more.step;
  written = written_one s e p.written;
}

answers_all : (s : Session) (rest : List ℕ) (old new : World) → IsProgress s rest old new → IsUnfinished rest → Answers s.bytes s.exchanges input_ended
answers_all s rest old new p less =
    subst (λ (es : List Exchange). Answers s.bytes es input_ended) (append-nil s.exchanges) (answers_on s.bytes rest s.exchanges [] input_ended p.leads (less, refl))

-- no complete head is left, and the input ended
pub ends_unfinished : (s : Session) (rest : List ℕ) (old new : World) → IsProgress s rest old new → IsUnfinished rest → IsSession s InputEnded old new
ends_unfinished s rest old new p less = record { ends = (answers_all s rest old new p less, p.written); under = p.under; run = p.run }

-- no complete head is left, and a read failed
pub ends_unread : (s : Session) (rest : List ℕ) (old new : World) → IsProgress s rest old new → IsUnfinished rest → IsSession s ReadFailed old new
ends_unread s rest old new p less = record { ends = (answers_all s rest old new p less, p.written); under = p.under; run = p.run }

-- the connection closes after one more exchange
pub ends_closed : (s : Session) (rest next : List ℕ) (old mid new : World) (e : Exchange)
    → IsProgress s rest old mid → IsNextExchange s rest next e mid new → closes e ≡ true → IsSession (with_exchange e s) Closed old new
ends_closed s rest next old mid new e p more shut = record {
  ends = (answers_on s.bytes rest s.exchanges (e ∷ []) closed p.leads (next, more.begins, rw shut (refl, refl)), written_one s e p.written);
  under = under_more s.setting s.exchanges e p.under more.under;
  run = run_one old mid new s.exchanges e p.run more.step;
}

-- the session with one more exchange, whose reply is written in part
abbrev pub with_part : Exchange → List ℕ → Session → Session
with_part e part s = record s { exchanges = s.exchanges ++ e ∷ []; written = s.written ++ part }

-- a write fails within the reply of one more exchange
pub breaks_off : (s : Session) (rest next : List ℕ) (old mid new : World) (e : Exchange) (part : List ℕ)
    → IsProgress s rest old mid → IsNextExchange s rest next e mid new → IsPartOf part (text_of e) → IsSession (with_part e part s) WriteFailed old new
breaks_off s rest next old mid new e part p more partial = record {
  ends = (
    first_one s.bytes rest next s.exchanges e p.leads more.begins,
    record {
      before = s.exchanges;
      last = e;
      part = part;
      order = refl;
      partial = partial;
      written = ap (λ (t : List ℕ). t ++ part) p.written.written;
      answered = p.written.answered;
    },
  );
  under = under_more s.setting s.exchanges e p.under more.under;
  run = run_one old mid new s.exchanges e p.run more.step;
}
