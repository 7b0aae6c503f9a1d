-- What an operator's socket has not taken yet of a reply.
use Rattle.std.specs.Prelude.{◌≡◌, ◌<◌, ◌≤◌, ℕ, Bool, true, false, List, drop, length, Result, Ok, Err}
use Rattle.outbox.specs.declared.unsent.Unsent.{Unsent}

-- the bytes that were not sent
abbrev pub rest_of : Unsent → List ℕ
rest_of unsent = drop unsent.sent unsent.bytes.items

-- bytes without some at their front
pub record IsEndOf (all rest : List ℕ) : Type 0 where
  pub count : ℕ
  pub some : 0 < count
  pub few : count ≤ length all
  pub is : rest ≡ drop count all

-- some bytes at the front were sent; or none were, and all are left
abbrev pub HasSent : {E : Type 0} → (all rest : List ℕ) → Result Bool E → Type 0
HasSent all rest (Ok true) = IsEndOf all rest
HasSent all rest (Ok false) = rest ≡ all
HasSent all rest (Err error) = rest ≡ all
