-- What one connection is sent, how it ends, and the world after it.
use Rattle.std.specs.Prelude.{◌≡◌, ℕ, true, List, [], ◌∷◌, ◌++◌, All, map, flat_map, count_by, is_some, Option, Some, None, Ok}
use Rattle.model.specs.World.{World, Object}
use Rattle.model.specs.Cases.{Setting}
use Rattle.model.specs.Answers.{Answer, serves, store_refusal}
use Rattle.model.specs.Steps.{Message, Exchange, exchanged, Run, allow, closes_after, closes}
use Rattle.model.specs.Stream.{input_ended, closed, Answers, AnswersFirst}
use Rattle.model.specs.Replies.{reply_text, reply_of, head_text}

-- ---- the text

-- the text of the reply to a message; nothing if there is no answer
abbrev pub text_if : Message → Option Answer → List ℕ
text_if asked (Some given) = reply_text given (allow asked given) (closes_after asked given)
text_if asked None = []

-- the text of an exchange's reply
abbrev pub text_of : Exchange → List ℕ
text_of e = text_if e.asked e.given

-- the texts of the replies, joined
abbrev pub session_text : List Exchange → List ℕ
session_text exchanges = flat_map text_of exchanges

-- the number of replies
abbrev pub reply_count : List Exchange → ℕ
reply_count exchanges = count_by (λ e. is_some e.given) exchanges

-- ---- sessions

-- the bytes that a connection read, how they were answered, and what was written; answered counts the replies that were
-- written whole. That bytes are all that there was is for the contract of the code to say.
pub record Session : Type 0 where
  pub setting : Setting
  pub bytes : List ℕ
  pub exchanges : List Exchange
  pub written : List ℕ
  pub answered : ℕ

-- why a session ended: its input did; the last reply closes; a read, a write, or the store failed
pub data End : Type 0 where
  InputEnded Closed ReadFailed WriteFailed StoreFailed : End

-- each reply is written whole
pub record IsWritten (s : Session) : Type 0 where
  pub written : s.written ≡ session_text s.exchanges
  pub answered : s.answered ≡ reply_count s.exchanges

-- the part is a beginning of the text, and not all of it
pub record IsPartOf (part text : List ℕ) : Type 0 where
  pub byte : ℕ
  pub rest : List ℕ
  pub is : text ≡ part ++ byte ∷ rest

-- all replies but the last are written whole, and of the last a part
pub record BreaksInLast (s : Session) : Type 0 where
  pub before : List Exchange
  pub last : Exchange
  pub part : List ℕ
  pub order : s.exchanges ≡ before ++ last ∷ []
  pub partial : IsPartOf part (text_of last)
  pub written : s.written ≡ session_text before ++ part
  pub answered : s.answered ≡ reply_count before

-- all replies but the last are written whole, and of the last its head and a beginning of the object, not all of it
pub record BreaksInContent (s : Session) : Type 0 where
  pub before : List Exchange
  pub last : Exchange
  pub object : Object
  pub part : List ℕ
  pub order : s.exchanges ≡ before ++ last ∷ []
  pub serving : last.given ≡ Some (Ok (serves object))
  pub partial : IsPartOf part object.bytes
  pub written : s.written ≡ session_text before ++ head_text (reply_of (Ok (serves object))) [] (closes last) ++ part
  pub answered : s.answered ≡ reply_count before

-- all exchanges are under this policy and at this moment
abbrev pub AreUnder : Setting → List Exchange → Type 0
AreUnder setting exchanges = All (λ e. e.setting ≡ setting) exchanges

-- the bytes are answered and the replies written, as the end says; what was read before a read failed is answered as a
-- stream of its own
abbrev pub EndsWith : Session → End → Type 0
EndsWith s InputEnded = Answers s.bytes s.exchanges input_ended × IsWritten s
EndsWith s ReadFailed = Answers s.bytes s.exchanges input_ended × IsWritten s
EndsWith s Closed = Answers s.bytes s.exchanges closed × IsWritten s
EndsWith s WriteFailed = AnswersFirst s.bytes s.exchanges × BreaksInLast s
EndsWith s StoreFailed = AnswersFirst s.bytes s.exchanges × BreaksInContent s

-- the exchanges answer the stream, lead from the old world to the new one, and their replies are what is written
pub record IsSession (s : Session) (end : End) (old new : World) : Type 0 where
  pub ends : EndsWith s end
  pub under : AreUnder s.setting s.exchanges
  pub run : Run old (map exchanged s.exchanges) new

-- ---- without memory to read

-- the reply by which the store refuses
abbrev pub refusal_text : List ℕ
refusal_text = reply_text store_refusal [] true

-- the refusal is written, or a write failed within it
abbrev pub WritesRefusal : Session → End → Type 0
WritesRefusal s Closed = (s.written ≡ refusal_text) × (s.answered ≡ 1)
WritesRefusal s WriteFailed = IsPartOf s.written refusal_text × (s.answered ≡ 0)
WritesRefusal s _ = ⊥

-- there was no memory to read the stream with: nothing was read or changed, and the store's refusal is the reply
pub record IsUnread (s : Session) (end : End) (old new : World) : Type 0 where
  pub bytes : s.bytes ≡ []
  pub exchanges : s.exchanges ≡ []
  pub same : new ≡ old
  pub writes : WritesRefusal s end
