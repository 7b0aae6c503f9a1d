-- The messages of a stream of bytes, and which of them a connection answers.
use Rattle.std.specs.Prelude.{◌≡◌, ℕ, ◌<◌, ◌≤◌, nat_le, List, [], ◌∷◌, ◌++◌, length, take, drop, MatchBool, ⊤}
use Rattle.httparse.specs.Grammar.{RequestHead, print_request, ReadsRequest}
use Rattle.model.specs.Heads.{body_length}
use Rattle.model.specs.Steps.{Message, bad_head, message, Exchange, closes}

-- the longest head, in bytes
abbrev pub head_limit : ℕ
head_limit = 16384

-- the most fields of a head
abbrev pub field_limit : ℕ
field_limit = 64

-- the bytes are that head and then the rest (RFC 9112, Message Format)
pub record IsHeadThen (bytes : List ℕ) (head : RequestHead) (rest : List ℕ) : Type 0 where
  pub reads : ReadsRequest bytes head rest
  pub short : length (print_request head) ≤ head_limit

-- the bytes do not begin with a head
abbrev pub HasNoHead : List ℕ → Type 0
HasNoHead bytes = (head : RequestHead) (rest : List ℕ) → ¬ (IsHeadThen bytes head rest)

-- no further bytes can complete them to a head
abbrev pub NeverIsHead : List ℕ → Type 0
NeverIsHead bytes = (more : List ℕ) (head : RequestHead) → ¬ (IsHeadThen (bytes ++ more) head [])

-- the first head is bad: it has too many fields, it is too long, or no bytes can complete it
pub data BeginsBadly (bytes : List ℕ) : Type 0 where
  too_many_fields :
      (head : RequestHead) (rest : List ℕ) → IsHeadThen bytes head rest → field_limit < length head.fields
      → BeginsBadly bytes
  too_long : HasNoHead bytes → head_limit ≤ length bytes → BeginsBadly bytes
  hopeless : HasNoHead bytes → NeverIsHead bytes → BeginsBadly bytes

-- the bytes begin with a head that does not have too many fields
pub record BeginsWithHead (bytes : List ℕ) (head : RequestHead) (rest : List ℕ) : Type 0 where
  pub reads : IsHeadThen bytes head rest
  pub fields : length head.fields ≤ field_limit

-- the message of a head and the bytes after it: the part of its body that arrived, and whether it is complete
abbrev pub message_with : RequestHead → List ℕ → Message
message_with head next = message head (take (body_length head) next) (nat_le (body_length head) (length next))

-- the first message of the bytes, and the rest after it; after a bad head nothing is read
pub data BeginsWith (bytes : List ℕ) (asked : Message) (rest : List ℕ) : Type 0 where
  with_message :
      (head : RequestHead) (next : List ℕ) → BeginsWithHead bytes head next → asked ≡ message_with head next
      → rest ≡ drop (body_length head) next → BeginsWith bytes asked rest
  with_bad_head : BeginsBadly bytes → asked ≡ bad_head → rest ≡ [] → BeginsWith bytes asked rest

-- the bytes are an incomplete head
pub record IsUnfinished (bytes : List ℕ) : Type 0 where
  pub none : HasNoHead bytes
  pub short : length bytes < head_limit

-- why there are no more messages: the input ended, or the server closed
pub data Ended : Type 0 where
  input_ended closed : Ended

-- the exchanges answer the messages of the stream in order, up to its end or to a reply after which the server closes
abbrev pub Answers : List ℕ → List Exchange → Ended → Type 0
Answers bytes [] end = IsUnfinished bytes × (end ≡ input_ended)
Answers bytes (e ∷ exchanges) end =
    (rest : List ℕ) × BeginsWith bytes e.asked rest
    × MatchBool (closes e) ((exchanges ≡ []) × (end ≡ closed)) (Answers rest exchanges end)

-- the exchanges answer the first messages of the stream in order, and more may follow
abbrev pub AnswersFirst : List ℕ → List Exchange → Type 0
AnswersFirst bytes [] = ⊤
AnswersFirst bytes (e ∷ exchanges) =
    (rest : List ℕ) × BeginsWith bytes e.asked rest
    × MatchBool (closes e) (exchanges ≡ []) (AnswersFirst rest exchanges)
