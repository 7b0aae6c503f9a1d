-- Whole messages in memory, and bytes that have none.
use Rattle.service.proofs.Prelude.{◌≡◌, ◌∙◌, ◌<◌, ◌≤◌, ℕ, List, [], length, take, drop, Result, Err, refl, sym, ap, ap₂, arith, RequestHead, Rule, ◌>>=◌, Target, query_of, body_length, message, BeginsWithHead, BeginsWith, with_message, Denied, IsDenied, Asks, target_asked, whole_message, Asked, rule_seen}
use Rattle.std.specs.Prelude.{string_bytes}
use Rattle.model.specs.Forms.{Request, request_of}
use Rattle.service.specs.Messages.{IsRead}
use Rattle.service.specs.Reading.{IsPart, IsReadAs, IsRefusedBy, fault_of, request_in, of_body, by_rule}
use Rattle.service.specs.declared.message.HeadFault.{HeadFault}
use Rattle.service.specs.declared.message.HeadFault.TheVariants as head
use Rattle.service.proofs.Messages.{body_is, cut_message, head_refused, le_true}

-- what a head makes with a body, by its verdict
abbrev made_by : RequestHead → List ℕ → Result Target Rule → Result Request Rule
made_by h body v = v >>= λ target. request_of target.form target.parameter (query_of h.target) body

-- a refused head makes no request
pub refused_by_head : (bytes rest : List ℕ) (h : RequestHead) (d : Denied) → BeginsWithHead bytes h rest → IsDenied h d → IsRefusedBy bytes (rule_seen d.rule)
refused_by_head bytes rest h d begins is = by_rule h [] _ (head_refused bytes rest h d begins is).begins (ap (made_by h []) is.rule)

-- the request of a head that asks this
pub asked_in : (h : RequestHead) (a : Asked) (body : List ℕ) → Asks h a → request_in h body ≡ request_of a.form (string_bytes a.parameter) (string_bytes a.query) body
asked_in h a body is = ap (made_by h body) is.target ∙ ap (λ (q : List ℕ). request_of a.form (string_bytes a.parameter) q body) (sym is.query)

-- the size of a head's body, and what follows the head
module _ (bytes rest : List ℕ) (h : RequestHead) (a : Asked) (begins : BeginsWithHead bytes h rest) (asks : Asks h a) where
  size_is : body_length h ≡ a.size
  size_is = body_is h (target_asked a) asks.target ∙ sym asks.size

  -- the whole body is there
  pub body_there : (body : List ℕ) → body ≡ take a.size rest → a.size ≤ length rest → BeginsWith bytes (whole_message h body) (drop (body_length h) rest)
  body_there body is fits =
      with_message h rest begins
      (ap₂ (λ (l : List ℕ) (v : _). message h l v) (is ∙ ap (λ (n : ℕ). take n rest) (sym size_is)) (sym (le_true (body_length h) (length rest) (omega (arith, fits, size_is)))))
      refl

  -- the bytes end within it
  pub body_cut : length rest < a.size → IsPart bytes
  body_cut less = of_body h _ (cut_message bytes rest h begins (omega (arith, less, size_is)))

-- a head that was not read
pub head_fault : (bytes rest : List ℕ) (h : RequestHead) (f : HeadFault) → BeginsWithHead bytes h rest → IsRead h (Err f) → IsReadAs bytes (Err (fault_of f))
head_fault bytes rest h (head.Denied d) begins is = refused_by_head bytes rest h d begins is
head_fault bytes rest h head.Memory begins is = tt
