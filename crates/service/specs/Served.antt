-- The result of serving a connection, from one world to another.
use Rattle.std.specs.Prelude.{◌≡◌, ◌≢◌, ◌⊎◌, ℕ, Bool, true, false, List, [], ◌∷◌, ◌++◌, map, Option, Some, option_map, ⊤}
use Rattle.std.specs.Io.KnownBytes.{Appends, Consumes}
use Rattle.httparse.specs.Grammar.{MayBecomeRequest}
use Rattle.store.specs.declared.state.State.{Ghosts}
use Rattle.names.specs.Streams.{HasGrown}
use Rattle.model.specs.World.{World}
use Rattle.model.specs.Cases.{Setting}
use Rattle.model.specs.Answers.{is_store_refusal}
use Rattle.model.specs.Steps.{Exchange, Event, exchanged, Run}
use Rattle.model.specs.Sessions as model
use Rattle.model.specs.Sessions.{IsSession, IsUnread, WritesRefusal}
use Rattle.model.specs.Progress.{IsProgress, LeadsTo}
use Rattle.model.specs.Views.{SameViews}
use Rattle.model.specs.Bounds.{bound_of_run}
use Rattle.model.specs.Laws.{NoneAsks}
use Rattle.refinement.specs.Left.{Leads}
use Rattle.service.specs.declared.ends.End.{End}
use Rattle.service.specs.declared.ends.End.TheVariants.{InputEnded, Closed, StoreRefused, ReadFailed, WriteFailed, StoreFailed}
use Rattle.service.specs.declared.ends.Served.{Served}

-- why the connection ended, in the terms of the definitions
abbrev pub end_seen : End → model.End
end_seen InputEnded = model.InputEnded
end_seen Closed = model.Closed
end_seen StoreRefused = model.Closed
end_seen ReadFailed = model.ReadFailed
end_seen WriteFailed = model.WriteFailed
end_seen StoreFailed = model.StoreFailed

-- the bytes after the last message may still become a head
abbrev pub IsLeftOpen : List ℕ → List Exchange → Type 0
IsLeftOpen bytes exchanges = (rest : List ℕ) × LeadsTo bytes exchanges rest × MayBecomeRequest rest

-- if the server did not close the connection, no bad head is left without a reply
abbrev pub HasNoBadHead : List ℕ → List Exchange → End → Type 0
HasNoBadHead bytes exchanges InputEnded = IsLeftOpen bytes exchanges
HasNoBadHead bytes exchanges ReadFailed = IsLeftOpen bytes exchanges
HasNoBadHead bytes exchanges Closed = ⊤
HasNoBadHead bytes exchanges StoreRefused = ⊤
HasNoBadHead bytes exchanges WriteFailed = ⊤
HasNoBadHead bytes exchanges StoreFailed = ⊤

-- the last exchange was answered, by a store refusal or by another reply
abbrev pub LastRefused : List Exchange → (refused : Bool) → Type 0
LastRefused exchanges refused =
    (before : List Exchange) × (last : Exchange) × (exchanges ≡ before ++ last ∷ [])
    × (option_map is_store_refusal last.given ≡ Some refused)

-- if the server closed the connection, the end says whether the last reply is a store refusal
abbrev pub IsClosedAs : List Exchange → End → Type 0
IsClosedAs exchanges Closed = LastRefused exchanges false
IsClosedAs exchanges StoreRefused = LastRefused exchanges true
IsClosedAs exchanges InputEnded = ⊤
IsClosedAs exchanges ReadFailed = ⊤
IsClosedAs exchanges WriteFailed = ⊤
IsClosedAs exchanges StoreFailed = ⊤

-- the connection's exchanges, the bytes written, the world that they led the store to, and what a stop leaves;
-- any run that ends in the old world can be continued by them, and views of other repositories do not change
pub record IsServed
    {S : Type 0} (g : Ghosts S) (setting : Setting) (bytes : List ℕ) (world : World)
    (old new : S) (was is : Option (List ℕ)) (served : Served) : Type 0 where
  pub exchanges : List Exchange
  pub written : List ℕ
  pub kept : World
  pub session : IsSession
      (record { setting = setting; bytes = bytes; exchanges = exchanges; written = written; answered = served.answered })
      (end_seen served.end) world kept
  pub bad_head : HasNoBadHead bytes exchanges served.end
  pub closed : IsClosedAs exchanges served.end
  pub taken : Appends was is written
  pub leads : Leads g old new kept (bound_of_run world (map exchanged exchanges))
  pub run : (start : World) (before : List Event) → Run start before world → Run start (before ++ map exchanged exchanges) kept
  pub apart : (repo : List ℕ) → NoneAsks repo exchanges → SameViews repo world kept

-- ---- no memory for the connection

-- a session that read nothing
abbrev pub unread_session : Setting → List ℕ → ℕ → model.Session
unread_session setting written answered =
    record { setting = setting; bytes = []; exchanges = []; written = written; answered = answered }

-- only the store refusal was written, or a prefix of it, and the end does not say that another reply was
pub record IsRefusal (was is : Option (List ℕ)) (served : Served) : Type 0 where
  pub written : List ℕ
  pub writes : (setting : Setting) → WritesRefusal (unread_session setting written served.answered) (end_seen served.end)
  pub refused : served.end ≢ Closed
  pub taken : Appends was is written

-- a session that wrote only the store refusal and changed nothing; the end does not say that another reply was written
pub record IsUnserved
    {S : Type 0} (g : Ghosts S) (setting : Setting) (world : World) (old new : S)
    (was is : Option (List ℕ)) (served : Served) : Type 0 where
  pub written : List ℕ
  pub session : IsUnread (unread_session setting written served.answered) (end_seen served.end) world world
  pub refused : served.end ≢ Closed
  pub taken : Appends was is written
  pub leads : Leads g old new world (λ bound. bound)

-- ---- the session theorem

-- one call: the bytes left in the source before and after it, the number of its failed reads before and after it, and
-- the bytes that the sink took before and after it
pub record Call : Type 0 where
  pub setting : Setting
  pub left : Option (List ℕ)
  pub rest : Option (List ℕ)
  pub failed_before : ℕ
  pub failed_after : ℕ
  pub was : Option (List ℕ)
  pub is : Option (List ℕ)

-- the connection was served the bytes that the source returned; or nothing was read, and no read failed, the store refusal
-- was written, and nothing changed, as happens if there is no memory for the connection
abbrev pub Serves : {S : Type 0} (g : Ghosts S) → Call → World → (old new : S) → Served → Type 0
Serves g call world old new served =
    ((bytes : List ℕ) × Consumes call.left call.rest bytes
    × IsServed g call.setting bytes world old new call.was call.is served)
    ⊎ ((call.failed_after ≡ call.failed_before) × (call.rest ≡ call.left)
    × IsUnserved g call.setting world old new call.was call.is served)

-- a write failed during this call exactly if the end says so
abbrev pub IsCountedAs : ℕ → ℕ → End → Type 0
IsCountedAs old new WriteFailed = HasGrown old new
IsCountedAs old new _ = new ≡ old

-- the last reply of a connection that the server closes
abbrev pub closing : End → ℕ
closing Closed = 1
closing StoreRefused = 1
closing _ = 0

-- ---- a session so far

-- the exchanges and the text written so far, up to the bytes that wait, whatever follows these; the bytes are those that
-- were read
pub record IsServing
    {S : Type 0} (g : Ghosts S) (setting : Setting) (bytes waits : List ℕ) (world : World)
    (old new : S) (was is : Option (List ℕ)) (answered : ℕ) : Type 0 where
  pub exchanges : List Exchange
  pub written : List ℕ
  pub kept : World
  pub progress : (more : List ℕ) → IsProgress
      (record { setting = setting; bytes = bytes ++ more; exchanges = exchanges; written = written; answered = answered })
      (waits ++ more) world kept
  pub taken : Appends was is written
  pub leads : Leads g old new kept (bound_of_run world (map exchanged exchanges))
