-- A session so far: the invariant of the loop over the messages of a stream.
use Rattle.std.specs.Prelude.{◌≡◌, ℕ, ◌+◌, false, List, [], ◌∷◌, ◌++◌, map}
use Rattle.model.specs.World.{World}
use Rattle.model.specs.Cases.{Setting}
use Rattle.model.specs.Steps.{Exchange, exchanged, Run, closes}
use Rattle.model.specs.Stream.{BeginsWith}
use Rattle.model.specs.Sessions.{Session, AreUnder, IsWritten, text_of, reply_count}

-- the exchanges answer the first messages of the bytes, the connection stays open, and the rest follows
abbrev pub LeadsTo : List ℕ → List Exchange → List ℕ → Type 0
LeadsTo bytes [] rest = rest ≡ bytes
LeadsTo bytes (e ∷ exchanges) rest =
    (next : List ℕ) × BeginsWith bytes e.asked next × (closes e ≡ false) × LeadsTo next exchanges rest

-- the session's bytes are answered up to the rest, from the old world to the new one, and all replies are written
pub record IsProgress (s : Session) (rest : List ℕ) (old new : World) : Type 0 where
  pub leads : LeadsTo s.bytes s.exchanges rest
  pub under : AreUnder s.setting s.exchanges
  pub run : Run old (map exchanged s.exchanges) new
  pub written : IsWritten s

-- a session that has read these bytes and answered nothing
abbrev pub fresh : Setting → List ℕ → Session
fresh setting bytes = record { setting = setting; bytes = bytes; exchanges = []; written = []; answered = 0 }

-- the session with one more exchange, whose reply is written whole
abbrev pub with_exchange : Exchange → Session → Session
with_exchange e s = record s {
  exchanges = s.exchanges ++ e ∷ [];
  written = s.written ++ text_of e;
  answered = s.answered + reply_count (e ∷ []);
}
