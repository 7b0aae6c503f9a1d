-- One message of a connection, and its answer.
use Rattle.std.specs.Prelude.{◌≡◌, ℕ, Bool, true, false, List, [], ◌++◌, Option, Some, None, is_some, option_map, MatchBool, Result, Ok, Err, ⊤}
use Rattle.std.specs.Io.KnownBytes.{Appends}
use Rattle.httparse.specs.Grammar.{MayBecomeRequest}
use Rattle.store.specs.declared.state.State.{Ghosts}
use Rattle.names.specs.Streams.{HasGrown, IsBeginning}
use Rattle.model.specs.World.{World}
use Rattle.model.specs.Cases.{Setting}
use Rattle.model.specs.Answers.{Answer, is_store_refusal}
use Rattle.model.specs.Steps.{Message, Exchange, exchanged, allow, closes}
use Rattle.model.specs.Stream.{BeginsWith, IsUnfinished}
use Rattle.model.specs.Replies.{reply_text}
use Rattle.model.specs.Sessions.{text_of}
use Rattle.refinement.specs.Left.{Leads, Takes}
use Rattle.desk.specs.Replies.{IsReplyOf}
use Rattle.service.specs.Sending.{BreaksOff, IsThere}
use Rattle.service.specs.declared.ends.End.{End}
use Rattle.service.specs.declared.ends.End.TheVariants.{InputEnded, Closed, StoreRefused, ReadFailed, WriteFailed, StoreFailed}
use Rattle.service.specs.declared.responding.Response.{Response}

-- a message and the answer to it, under a policy and at a moment
abbrev pub exchange : Setting → Message → Option Answer → Exchange
exchange setting asked given = record { setting = setting; asked = asked; given = given }

-- the bytes begin with the message of the exchange, whatever follows them, and the next ones follow it
abbrev pub IsFirst : List ℕ → Exchange → List ℕ → Type 0
IsFirst bytes e next = (more : List ℕ) → BeginsWith (bytes ++ more) e.asked (next ++ more)

-- an exchange under this setting that led the store from one world to another
pub record IsTurn
    {S : Type 0} (g : Ghosts S) (setting : Setting) (world : World) (old new : S) (e : Exchange) (kept : World) : Type 0 where
  pub under : e.setting ≡ setting
  pub takes : Takes g old new world (exchanged e) kept

-- ---- a response

-- the bytes begin with the message that the response answers, and an object that the reply sends is there; the next bytes
-- follow the message if the connection stays open
pub record IsResponse
    {S : Type 0} (g : Ghosts S) (setting : Setting) (bytes next : List ℕ) (world : World) (old new : S) (r : Response) : Type 0 where
  pub e : Exchange
  pub kept : World
  pub turn : IsTurn g setting world old new e kept
  pub given : Answer
  pub is : e.given ≡ Some given
  pub is_reply : IsReplyOf r.reply given
  pub there : IsThere kept r.repo given
  pub methods : r.allow.now ≡ allow e.asked given
  pub closes : closes e ≡ r.close
  pub begins : MatchBool r.close ((rest : List ℕ) × BeginsWith bytes e.asked rest) (IsFirst bytes e next)

-- the bytes hold no complete message: less than a head, or a head with less than its body, which is not answered
pub data IsIncomplete
    {S : Type 0} (g : Ghosts S) (setting : Setting) (bytes : List ℕ) (world : World) (old new : S) : Type 0 where
  less_than_head :
      IsUnfinished bytes → MayBecomeRequest bytes → Leads g old new world (λ bound. bound)
      → IsIncomplete g setting bytes world old new
  less_than_body :
      (e : Exchange) (kept : World) → IsTurn g setting world old new e kept → BeginsWith bytes e.asked []
      → e.given ≡ None → IsIncomplete g setting bytes world old new

-- the bytes that were read complete a message, which the response answers; or the input ended or failed within it
abbrev pub Responds :
    {S E : Type 0} (g : Ghosts S) → Setting → List ℕ → List ℕ → World → S → S → Result Response E → Type 0
Responds g setting bytes next world old new (Ok r) = IsResponse g setting bytes next world old new r
Responds g setting bytes next world old new (Err end) = IsIncomplete g setting bytes world old new

-- ---- what is written

-- the reply to the answer was written: all of it, a prefix if a write failed, or less than its content if the store failed
abbrev pub IsSent : Option (List ℕ) → Option (List ℕ) → Answer → List ℕ → Bool → Option End → Type 0
IsSent old new given allow close None = Appends old new (reply_text given allow close)
IsSent old new given allow close (Some Closed) = Appends old new (reply_text given allow close)
IsSent old new given allow close (Some StoreRefused) = Appends old new (reply_text given allow close)
IsSent old new given allow close (Some WriteFailed) =
    (written : ℕ) × IsBeginning old new (reply_text given allow close) written
IsSent old new given allow close (Some StoreFailed) = BreaksOff given allow close old new
IsSent old new given allow close (Some InputEnded) = ⊥
IsSent old new given allow close (Some ReadFailed) = ⊥

-- how a connection ends with a reply: it goes on, or the server closes it if `close` is set, after a store refusal or
-- another reply; or a write or the store failed
abbrev pub EndsReply : (close refused : Bool) → Option End → Type 0
EndsReply close refused None = close ≡ false
EndsReply close refused (Some Closed) = (close ≡ true) × (refused ≡ false)
EndsReply close refused (Some StoreRefused) = (close ≡ true) × (refused ≡ true)
EndsReply close refused (Some WriteFailed) = ⊤
EndsReply close refused (Some StoreFailed) = ⊤
EndsReply close refused (Some InputEnded) = ⊥
EndsReply close refused (Some ReadFailed) = ⊥

-- a write failed exactly if the connection ended for that
abbrev pub IsCounted : ℕ → ℕ → Option End → Type 0
IsCounted old new (Some WriteFailed) = HasGrown old new
IsCounted old new _ = new ≡ old

-- ---- a turn

-- the message at the front of the bytes was answered, by a store refusal or another reply, and the connection closed
abbrev pub ClosesTurn :
    {S : Type 0} (g : Ghosts S) → Setting → List ℕ → World → (old new : S)
    → Option (List ℕ) → Option (List ℕ) → (refused : Bool) → Type 0
ClosesTurn g setting bytes world old new was is refused =
    (e : Exchange) × (kept : World) × IsTurn g setting world old new e kept × ((rest : List ℕ) × BeginsWith bytes e.asked rest)
    × (option_map is_store_refusal e.given ≡ Some refused) × (closes e ≡ true) × Appends was is (text_of e)

-- the message at the front of the bytes was answered and the reply written, so that the connection goes on with the
-- next bytes or ends; or only a part of the reply was written, since a write or the store failed; or the bytes hold no
-- complete message, and nothing is written
abbrev pub EndsTurn :
    {S : Type 0} (g : Ghosts S) → Setting → (bytes next : List ℕ) → World → (old new : S)
    → Option (List ℕ) → Option (List ℕ) → Option End → Type 0
EndsTurn g setting bytes next world old new was is None =
    (e : Exchange) × (kept : World) × IsTurn g setting world old new e kept × IsFirst bytes e next
    × (is_some e.given ≡ true) × (closes e ≡ false) × Appends was is (text_of e)
EndsTurn g setting bytes next world old new was is (Some Closed) =
    ClosesTurn g setting bytes world old new was is false
EndsTurn g setting bytes next world old new was is (Some StoreRefused) =
    ClosesTurn g setting bytes world old new was is true
EndsTurn g setting bytes next world old new was is (Some WriteFailed) =
    (e : Exchange) × (kept : World) × IsTurn g setting world old new e kept × ((rest : List ℕ) × BeginsWith bytes e.asked rest)
    × ((written : ℕ) × IsBeginning was is (text_of e) written)
EndsTurn g setting bytes next world old new was is (Some StoreFailed) =
    (e : Exchange) × (kept : World) × IsTurn g setting world old new e kept × ((rest : List ℕ) × BeginsWith bytes e.asked rest)
    × ((given : Answer) × (e.given ≡ Some given) × BreaksOff given (allow e.asked given) (closes e) was is)
EndsTurn g setting bytes next world old new was is (Some InputEnded) =
    IsIncomplete g setting bytes world old new × (is ≡ was)
EndsTurn g setting bytes next world old new was is (Some ReadFailed) =
    IsIncomplete g setting bytes world old new × (is ≡ was)
