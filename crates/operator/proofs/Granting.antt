-- Why a token is not issued.
use Rattle.operator.proofs.Prelude.{◌≡◌, sym, subst, World, From, Reads, reads_lead, Ghosts, TaskFault}
use Rattle.model.specs.Operator.{token_verdict}
use Rattle.tables.specs.declared.fault.StoreFault.TheVariants as tables
use Rattle.tokens.specs.Issuing.{denial_of, token_asked}
use Rattle.tokens.specs.declared.issuing.TokenFault.{TokenFault}
use Rattle.tokens.specs.declared.issuing.TokenFault.TheVariants as token
use Rattle.tokens.specs.declared.requests.TokenRequest.{TokenRequest}
use Rattle.operator.specs.Failing.{Fails, IsIssueOf, IsTokenFault}
use Rattle.operator.specs.Faults.{of_token}
use Rattle.operator.specs.declared.faults.TaskFault.TheVariants.{Memory, Output}
use Rattle.operator.proofs.Failing.{fails_still}

-- the fault of the call is that of the task
pub token_cause : (world : World) (asked : TokenRequest) (e : TaskFault) (f : TokenFault) → e ≡ of_token f → denial_of f (token_verdict world (token_asked asked)) → IsTokenFault world asked e
token_cause world asked e f is why = subst (IsTokenFault world asked) (sym is) (at f why)
  where
    at : (f : TokenFault) → denial_of f (token_verdict world (token_asked asked)) → IsTokenFault world asked (of_token f)
    at token.AlreadyIssued why = why
    at token.ExpiresTooLate why = why
    at (token.Store tables.Refused) why = tt
    at (token.Store tables.Memory) why = tt

pub token_memory : (world : World) (asked : TokenRequest) (e : TaskFault) → e ≡ Memory → IsTokenFault world asked e
token_memory world asked e is = subst (IsTokenFault world asked) (sym is) tt

pub token_output : (world : World) (asked : TokenRequest) (e : TaskFault) → e ≡ Output → IsTokenFault world asked e
token_output world asked e is = subst (IsTokenFault world asked) (sym is) tt

module _ {S : Type 0} (g : Ghosts S) where
  -- the token was not stored
  pub from_offered : (a b : S) (asked : TokenRequest) (e : TaskFault) (P : World → Type 0) → ((world : World) → P world → IsTokenFault world asked e) → Reads g a b P
      → From g a b (λ world. Fails g (IsIssueOf asked) ⊥ a b world × IsTokenFault world asked e)
  from_offered a b asked e P why p = record {
    honest = p.same.was_honest;
    each = λ honest world h. (fails_still g _ _ a b world (reads_lead g a b P world p h), why world (p.each honest world h));
  }
