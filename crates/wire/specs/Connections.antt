-- What a connection reads and hands out, and why it has no message.
use Rattle.std.specs.Prelude.{◌≡◌, ◌≢◌, ℕ, ◌+◌, ◌<◌, ◌≤◌, ◌⊎◌, List, ◌++◌, length, Option, Some, None, Ok, Err, IfSome}
use Rattle.std.specs.Io.KnownBytes.{Consumes, IsAtEnd}
use Rattle.httparse.specs.Grammar.{RequestHead, MayBecomeRequest, print_request}
use Rattle.names.specs.Streams.{HasGrown}
use Rattle.names.specs.declared.streams.Source.{Ghosts}
use Rattle.model.specs.Heads.{content_length, check_framing}
use Rattle.model.specs.Stream.{IsUnfinished, BeginsBadly, BeginsWithHead}
use Rattle.wire.specs.Buffers.{front, unused}
use Rattle.wire.specs.Cut.{Covers}
use Rattle.wire.specs.declared.connection.Conn.{Conn}
use Rattle.wire.specs.HeadRules.{rule_seen}
use Rattle.wire.specs.declared.rules.HeadRule.{HeadRule}
use Rattle.wire.specs.declared.rules.HeadRule.TheVariants.{H1}
use Rattle.wire.specs.declared.connection.Stop.{Stop}
use Rattle.wire.specs.declared.connection.Stop.TheVariants.{End, Rule as ByRule, Device, Unread}

-- the bytes begin with what that rule of H1 to H5 refuses
abbrev pub Refuses : List ℕ → HeadRule → Type 0
Refuses bytes rule =
    ((rule ≡ H1) × BeginsBadly bytes)
    ⊎ ((head : RequestHead) × (rest : List ℕ) × BeginsWithHead bytes head rest × (check_framing head ≡ Err (rule_seen rule)))

-- the answer that later calls repeat: the end and a refusal, and not a failed read
abbrev pub repeated : Stop → Option Stop
repeated End = Some End
repeated (ByRule rule) = Some (ByRule rule)
repeated Device = None
repeated Unread = None

module _ {R : Type 0} {g : Ghosts R} where
  -- the bytes that were read and not handed out
  abbrev pub waiting : Conn R g → List ℕ
  waiting c = unused c.buffer

  -- an upper bound of the bytes that are still handed out
  abbrev pub weight : Conn R g → ℕ
  weight c = length (waiting c) + g.budget c.source

  -- the head that was read last
  abbrev pub IsAt : Conn R g → RequestHead → Type 0
  IsAt c head = Covers (front c.buffer) c.fields.items c.head head

  -- the source returned the bytes `read`, and the connection handed out the bytes `given`
  pub record Moves (old new : Conn R g) (read given : List ℕ) : Type 0 where
    pub consumes : Consumes (g.left old.source) (g.left new.source) read
    pub order : waiting old ++ read ≡ given ++ waiting new
    pub same_reference : g.reference new.source ≡ g.reference old.source
    pub lighter : length given + weight new ≤ weight old

  -- the head that was read last is in the same place, and the connection is as open as before
  pub record SameHead (old new : Conn R g) : Type 0 where
    pub front : front new.buffer ≡ front old.buffer
    pub fields : new.fields ≡ old.fields
    pub spans : new.head ≡ old.head
    pub over : new.over ≡ old.over

  -- a head was read: the bytes begin with it, and those after it wait
  pub record HasHead (old new : Conn R g) : Type 0 where
    pub read : List ℕ
    pub head : RequestHead
    pub consumes : Consumes (g.left old.source) (g.left new.source) read
    pub begins : BeginsWithHead (waiting old ++ read) head (waiting new)
    pub at : IsAt new head
    pub framed : check_framing head ≡ Ok tt
    pub size : new.left ≡ content_length head
    pub none_left : old.left ≡ 0
    pub was_open : old.over ≡ None
    pub is_open : new.over ≡ None
    pub good : g.failed new.source ≡ g.failed old.source
    pub same_reference : g.reference new.source ≡ g.reference old.source
    pub lighter : weight new < weight old
    pub counted : length (print_request head) + weight new ≤ weight old

  -- why an open connection has no message, by the bytes that wait
  abbrev pub HasStopped : Stop → Conn R g → Conn R g → Type 0
  HasStopped End old new =
      IsUnfinished (waiting new) × MayBecomeRequest (waiting new) × IsAtEnd (g.left new.source)
  HasStopped (ByRule rule) old new = Refuses (waiting new) rule
  HasStopped Device old new =
      IsUnfinished (waiting new) × MayBecomeRequest (waiting new)
      × HasGrown (g.failed old.source) (g.failed new.source)
  HasStopped Unread old new = ⊥

  -- there is no message: nothing was handed out, and what was read waits
  pub record IsStopped (old : Conn R g) (stop : Stop) (new : Conn R g) : Type 0 where
    pub read : List ℕ
    pub consumes : Consumes (g.left old.source) (g.left new.source) read
    pub kept : waiting new ≡ waiting old ++ read
    pub same_reference : g.reference new.source ≡ g.reference old.source
    pub lighter : weight new ≤ weight old
    pub left : new.left ≡ old.left
    pub good : stop ≢ Device → g.failed new.source ≡ g.failed old.source
    pub unread : 0 < old.left → (stop ≡ Unread) × (new ≡ old)
    pub again : old.left ≡ 0 → IfSome old.over (λ was. (stop ≡ was) × (new ≡ old))
    pub why : old.left ≡ 0 → old.over ≡ None → HasStopped stop old new
    pub remembered : old.left ≡ 0 → old.over ≡ None → new.over ≡ repeated stop
