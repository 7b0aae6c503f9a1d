-- How long the first message of some bytes is.
use Rattle.std.specs.Prelude.{◌≡◌, ℕ, List, ◌⊎◌, drop, Ok, Err}
use Rattle.names.specs.declared.rules.Rule.{Rule}
use Rattle.httparse.specs.Grammar.{RequestHead, MayBecomeRequest}
use Rattle.model.specs.Heads.{check_framing, content_length}
use Rattle.model.specs.Stream.{BeginsBadly, BeginsWithHead, IsUnfinished}
use Rattle.connections.specs.declared.extent.Extent.{Extent}
use Rattle.connections.specs.declared.extent.Extent.TheVariants.{Head, Message, Refused}

-- a rule refuses the framing of the head at the front of the bytes
pub record HasRefusedHead (bytes : List ℕ) : Type 0 where
  pub head : RequestHead
  pub rest : List ℕ
  pub rule : Rule
  pub begins : BeginsWithHead bytes head rest
  pub refused : check_framing head ≡ Err rule

-- Head: an incomplete head, which more bytes may complete; Message: a head that no rule refuses, its size and that of its
-- body; Refused: bytes that no head begins with, or a head that a rule refuses
abbrev pub IsExtent : List ℕ → Extent → Type 0
IsExtent bytes Head = IsUnfinished bytes × MayBecomeRequest bytes
IsExtent bytes (Message size body transfer) =
    (head : RequestHead) × BeginsWithHead bytes head (drop size bytes) × (check_framing head ≡ Ok tt)
    × (body ≡ content_length head)
IsExtent bytes Refused = BeginsBadly bytes ⊎ HasRefusedHead bytes
