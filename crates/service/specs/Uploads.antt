-- An upload whose content arrives after the turn in which it was begun.
use Rattle.std.specs.Prelude.{◌≡◌, ℕ, true, false, List, [], is_err, is_some, Option, Some, None, Result, ⊤}
use Rattle.std.specs.Io.KnownBytes.{Appends}
use Rattle.httparse.specs.Grammar.{RequestHead}
use Rattle.names.specs.declared.rules.Rule.{Rule}
use Rattle.store.specs.declared.state.State.{Ghosts}
use Rattle.model.specs.World.{World}
use Rattle.model.specs.Cases.{Setting}
use Rattle.model.specs.Steps.{Exchange, closes}
use Rattle.model.specs.Sessions.{text_of}
use Rattle.model.specs.Stream.{BeginsWith, BeginsWithHead}
use Rattle.forms.specs.declared.request.Request.{Request}
use Rattle.desk.specs.Receiving.{IsReceiving}
use Rattle.service.specs.Judging.{is_put}
use Rattle.service.specs.Messages.{Asks, IsReadFrom}
use Rattle.service.specs.Turns.{IsTurn}
use Rattle.service.specs.declared.ends.End.{End}
use Rattle.service.specs.declared.ends.End.TheVariants.{Closed, StoreRefused}
use Rattle.service.specs.declared.message.Asked.{Asked}
use Rattle.service.specs.declared.underway.PutHead.{PutHead}
use Rattle.service.specs.declared.underway.Upload.{Upload}

-- the bytes are the head of an upload and this part of what follows it; the head asks this and makes this request, which no
-- rule refuses
pub record IsPut (a : Asked) (q : Result Request Rule) (bytes part : List ℕ) : Type 0 where
  pub head : RequestHead
  pub begins : BeginsWithHead bytes head part
  pub asks : Asks head a
  pub put : is_put a.form ≡ true
  pub read : IsReadFrom a [] q
  pub taken : is_err q ≡ false

-- the bytes begin with this head of an upload
abbrev pub IsPutHead : List ℕ → PutHead → Type 0
IsPutHead bytes p = IsPut p.asked p.request bytes p.part.now

-- the moment of its head
abbrev pub moment_of : Upload → ℕ
moment_of u = u.moment

-- how many bytes of its content have not arrived
abbrev pub content_left : Upload → ℕ
content_left u = u.receiving.left

-- the reply of the exchange was written, and the connection goes on or is closed after it, as the reply says; or a write failed
abbrev pub IsPutReplied : Exchange → Option (List ℕ) → Option (List ℕ) → Option End → Type 0
IsPutReplied e was is None = (is_some e.given ≡ true) × (closes e ≡ false) × Appends was is (text_of e)
IsPutReplied e was is (Some Closed) = (is_some e.given ≡ true) × (closes e ≡ true) × Appends was is (text_of e)
IsPutReplied e was is (Some StoreRefused) = (is_some e.given ≡ true) × (closes e ≡ true) × Appends was is (text_of e)
IsPutReplied e was is (Some end) = ⊤

module _ {S : Type 0} (g : Ghosts S) where
  -- these bytes of the upload's message have arrived: its head, and a part of its content, which is staged
  pub record IsUnderWay (s : S) (u : Upload) (bytes : List ℕ) : Type 0 where
    pub part : List ℕ
    pub message : IsPut u.asked u.request bytes part
    pub arrived : IsReceiving g s u.receiving part
    pub size : u.receiving.size ≡ u.asked.size

  -- the message at the front of these bytes was answered, in one step; its reply was written, and says whether the connection is
  -- closed after it, or it could not be written
  pub record IsPutAnswered (setting : Setting) (bytes : List ℕ) (world : World) (old new : S)
      (was is : Option (List ℕ)) (end : Option End) : Type 0 where
    pub e : Exchange
    pub kept : World
    pub turn : IsTurn g setting world old new e kept
    pub begins : (rest : List ℕ) × BeginsWith bytes e.asked rest
    pub replied : IsPutReplied e was is end
