-- Requests for the content of an object.
use Rattle.desk.proofs.Prelude.{◌≡◌, ℕ, true, false, List, Some, None, Ok, Err, refl, subst, X1, X4, is_gone, size_of, by_rule, may_pull, get_verdict, IsUserOf, case_policy, case_repo, case_user}
use Rattle.model.specs.Answers.{sends}
use Rattle.model.specs.Callers.{Caller}
use Rattle.model.specs.Cases.{Case}
use Rattle.desk.specs.declared.cases.Case as code

-- the question that the code asks is that of the definitions
pub pulls : (case : code.Case) (who : Caller) → IsUserOf case who → may_pull (case_policy case) (case_user case) (case_repo case).name 404 ≡ Ok tt
    → may_pull (case_policy case) who.user (case_repo case).name 404 ≡ Ok tt
pulls case who user may = subst (λ (u : List ℕ). may_pull (case_policy case) u (case_repo case).name 404 ≡ Ok tt) user may

module _ (c : Case) (name : List ℕ) (may : may_pull c.setting.policy c.caller.user c.repo.name 404 ≡ Ok tt) where
  -- the name is retired
  pub get_gone : is_gone name c.state ≡ true → get_verdict c name ≡ Err (by_rule X4)
  get_gone gone = rw (may, gone) refl

  -- it is not, and the repository has no object of the name
  pub get_none : is_gone name c.state ≡ false → size_of name c.state ≡ None → get_verdict c name ≡ Err (by_rule X1)
  get_none kept none = rw (may, kept, none) refl

  -- it has one
  pub get_some : is_gone name c.state ≡ false → (size : ℕ) → size_of name c.state ≡ Some size → get_verdict c name ≡ Ok (sends name size)
  get_some kept size some = rw (may, kept, some) refl
