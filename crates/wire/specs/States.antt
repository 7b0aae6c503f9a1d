-- The state of a connection between its messages.
use Rattle.std.specs.Prelude.{◌≡◌, ℕ, ◌+◌, List, [], ◌++◌, length, None}
use Rattle.names.specs.declared.streams.Source.{Ghosts}
use Rattle.wire.specs.Connections.{Moves, SameHead}
use Rattle.wire.specs.declared.connection.Conn.{Conn}

module _ {R : Type 0} {g : Ghosts R} where
  -- the source that it reads
  abbrev pub source_of : Conn R g → R
  source_of c = c.source

  -- the number of bytes of the last message's body that were not read
  abbrev pub body_left : Conn R g → ℕ
  body_left c = c.left

  -- the last message was read to its end, and the source has not ended
  abbrev pub IsOpen : Conn R g → Type 0
  IsOpen c = (c.left ≡ 0) × (c.over ≡ None)

  -- a read handed out these bytes of the body: the source returned some bytes, and the head is where it was
  pub record HandsOut (old new : Conn R g) (given : List ℕ) : Type 0 where
    pub read : List ℕ
    pub moves : Moves old new read given
    pub same_head : SameHead old new
    pub left : length given + body_left new ≡ body_left old

  -- reads handed out these bytes of the body, one after the other
  pub data Hands : Conn R g → Conn R g → List ℕ → Type 0 where
    by_none : (c : Conn R g) → Hands c c []
    by_read : (old new : Conn R g) (given : List ℕ) → HandsOut old new given → Hands old new given
    by_both :
        (old mid new : Conn R g) (front back : List ℕ) → Hands old mid front → Hands mid new back
        → Hands old new (front ++ back)
