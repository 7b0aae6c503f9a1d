-- Whole messages, and why bytes have none.
use Rattle.std.specs.Prelude.{◌≡◌, ℕ, List, [], Result, Ok, Err, false, ⊤}
use Rattle.httparse.specs.Grammar.{RequestHead, MayBecomeRequest}
use Rattle.names.specs.declared.rules.Rule.{Rule}
use Rattle.names.specs.declared.rules.Rule.TheVariants.{H1}
use Rattle.model.specs.Reading.{◌>>=◌}
use Rattle.model.specs.Forms.{Request, request_of}
use Rattle.model.specs.Heads.{head_verdict, query_of}
use Rattle.model.specs.Steps as model
use Rattle.model.specs.Stream.{BeginsBadly, BeginsWith, IsUnfinished}
use Rattle.wire.specs.HeadRules.{rule_seen}
use Rattle.forms.specs.Requests.{request_asked}
use Rattle.service.specs.Messages.{Asks, whole_message}
use Rattle.service.specs.declared.message.HeadFault.{HeadFault}
use Rattle.service.specs.declared.message.HeadFault.TheVariants as head
use Rattle.service.specs.declared.reading.Message.{Message}
use Rattle.service.specs.declared.reading.MessageFault.{MessageFault}
use Rattle.service.specs.declared.reading.MessageFault.TheVariants as fault

-- the request that a head and its whole body make, or the first H or J rule that refuses them
abbrev pub request_in : RequestHead → List ℕ → Result Request Rule
request_in h body = do
  target ← head_verdict h
  request_of target.form target.parameter (query_of h.target) body

-- the message is at the front of the bytes: its head asks this, and its body makes the request
pub record IsWhole (bytes : List ℕ) (m : Message) : Type 0 where
  pub head : RequestHead
  pub rest : List ℕ
  pub begins : BeginsWith bytes (whole_message head m.body.now) rest
  pub asks : Asks head m.asked
  pub request : request_in head m.body.now ≡ Ok (request_asked m.request)

-- the bytes are a part of a message: of its head, or its head with a part of its body
pub data IsPart (bytes : List ℕ) : Type 0 where
  of_head : IsUnfinished bytes → MayBecomeRequest bytes → IsPart bytes
  of_body : (head : RequestHead) (body : List ℕ) → BeginsWith bytes (model.message head body false) [] → IsPart bytes

-- the rule refuses the message at the front of the bytes
pub data IsRefusedBy (bytes : List ℕ) (rule : Rule) : Type 0 where
  no_head : BeginsBadly bytes → rule ≡ H1 → IsRefusedBy bytes rule
  by_rule :
      (head : RequestHead) (body rest : List ℕ) → BeginsWith bytes (whole_message head body) rest
      → request_in head body ≡ Err rule → IsRefusedBy bytes rule

-- the message at the front of the bytes; or they are a part of one; or a rule refuses it; or memory ran out
abbrev pub IsReadAs : List ℕ → Result Message MessageFault → Type 0
IsReadAs bytes (Ok m) = IsWhole bytes m
IsReadAs bytes (Err fault.Cut) = IsPart bytes
IsReadAs bytes (Err (fault.Refused rule)) = IsRefusedBy bytes rule
IsReadAs bytes (Err fault.Memory) = ⊤

-- the rule that refuses a head, or memory ran out
abbrev pub fault_of : HeadFault → MessageFault
fault_of (head.Denied d) = fault.Refused (rule_seen d.rule)
fault_of head.Memory = fault.Memory
