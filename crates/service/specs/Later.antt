-- An object whose content is sent after the turn in which it was asked for.
use Rattle.std.specs.Prelude.{◌≡◌, ◌⊎◌, ◌<◌, ℕ, Bool, List, [], ◌∷◌, ◌++◌, Option, Some, None, IfSome, option_map, length}
use Rattle.std.specs.Borrow.{Bor}
use Rattle.std.specs.Io.KnownBytes.{Appends, Consumes}
use Rattle.names.specs.Names.{repo_text}
use Rattle.names.specs.declared.texts.RepoName.{RepoName}
use Rattle.store.specs.declared.state.State.{Ghosts}
use Rattle.model.specs.World.{World, Object, object_named}
use Rattle.model.specs.Cases.{Setting}
use Rattle.model.specs.Answers.{Answer}
use Rattle.model.specs.Steps.{Exchange, closes}
use Rattle.model.specs.Sessions.{session_text}
use Rattle.desk.specs.declared.replies.ReplyBody.{ReplyBody}
use Rattle.desk.specs.declared.replies.ReplyBody.TheVariants.{Content}
use Rattle.downloads.specs.Downloads.{closes_of, name_of, download_repo, sent_of, size_of}
use Rattle.downloads.specs.declared.download.Download.{Download}
use Rattle.service.specs.Sending.{BreaksOff}
use Rattle.service.specs.Served.{Call, IsServed, IsUnserved}
use Rattle.service.specs.Turns.{EndsTurn, IsSent}
use Rattle.service.specs.declared.ends.End.{End}
use Rattle.service.specs.declared.ends.End.TheVariants.{StoreFailed}
use Rattle.service.specs.declared.ends.Served.{Served}

-- the object of which the body has the content, of this repository; none of its bytes were sent, and it has some; the connection
-- is closed after it or not
pub record IsDeferred (d : Download) (repo : Option (Bor RepoName)) (body : ReplyBody) (close : Bool) : Type 0 where
  pub of_repo : option_map (λ (r : Bor RepoName). repo_text r.now) repo ≡ Some (repo_text (download_repo d))
  pub of_body : body ≡ Content (name_of d) (size_of d)
  pub some : 0 < size_of d
  pub none : sent_of d ≡ 0
  pub closes : closes_of d ≡ close

-- the object that the world has in the repository under its name
pub record IsThisObject (d : Download) (world : World) (o : Object) : Type 0 where
  pub there : object_named (repo_text (download_repo d)) (name_of d) world ≡ Some o
  pub size : size_of d ≡ length o.bytes
  pub none : sent_of d ≡ 0

-- the last reply says that the connection is closed after it, or that it is not
abbrev pub LastCloses : List Exchange → Bool → Type 0
LastCloses exchanges close =
    (before : List Exchange) × (last : Exchange) × (exchanges ≡ before ++ last ∷ []) × (closes last ≡ close)

-- the reply to the answer was written; or its head was, and this is the object that it serves
abbrev pub IsSentBut : Option (List ℕ) → Option (List ℕ) → World → Answer → List ℕ → Bool → Option Download → Option End → Type 0
IsSentBut was is world given allow close None end = IsSent was is given allow close end
IsSentBut was is world given allow close (Some d) end =
    (end ≡ Some StoreFailed) × (broke : BreaksOff given allow close was is) × IsThisObject d world broke.object × (broke.written ≡ 0)
    × (closes_of d ≡ close)

module _ {S : Type 0} (g : Ghosts S) where
  -- a turn ended so; or with the head of a reply, and the content of its object is left to be sent
  abbrev pub EndsTurnBut : Setting → (bytes next : List ℕ) → World → (old new : S)
      → Option (List ℕ) → Option (List ℕ) → Option Download → Option End → Type 0
  EndsTurnBut setting bytes next world old new was is None end = EndsTurn g setting bytes next world old new was is end
  EndsTurnBut setting bytes next world old new was is (Some d) end =
      (end ≡ Some StoreFailed) × (turn : EndsTurn g setting bytes next world old new was is (Some StoreFailed))
      × IsThisObject d turn.1 turn.4.2.object × (turn.4.2.written ≡ 0) × (closes_of d ≡ closes turn.0)

  -- a connection was served so; and of the last reply the content of this object is left to be sent, with which all replies
  -- are whole; the last one says whether the connection is closed after it
  pub record IsServedBut (setting : Setting) (bytes : List ℕ) (world : World) (old new : S) (was is : Option (List ℕ))
      (later : Option Download) (served : Served) : Type 0 where
    pub served_so : IsServed g setting bytes world old new was is served
    pub owes : IfSome later (λ (d : Download). (o : Object) × IsThisObject d served_so.kept o
        × (served_so.written ++ o.bytes ≡ session_text served_so.exchanges) × LastCloses served_so.exchanges (closes_of d))

  -- one call: the connection was served the bytes that the source returned, but for the content of this object; or nothing was
  -- read, and only the store refusal was written
  abbrev pub ServesBut : Call → World → (old new : S) → Option Download → Served → Type 0
  ServesBut call world old new later served =
      ((bytes : List ℕ) × Consumes call.left call.rest bytes
      × IsServedBut call.setting bytes world old new call.was call.is later served)
      ⊎ ((call.failed_after ≡ call.failed_before) × (call.rest ≡ call.left)
      × IsUnserved g call.setting world old new call.was call.is served × (later ≡ None))
