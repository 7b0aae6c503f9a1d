-- Requests that push objects: their ref, and the verdicts on verification and on a place for an upload.
use Rattle.desk.proofs.Prelude.{◌≡◌, ◌∙◌, ℕ, ◌==◌, Bool, true, false, not, List, Option, Some, None, Result, Ok, Err, is_err, refl, ap, subst, X3, X4, V1, V2, ◌>>=◌, check, ok_or, is_gone, size_of, PutForm, VerifyForm, Denial, by_rule, by_rules, may_push, confirms, receives, ref_or_default, put_verdict, verify_verdict, has_place, size_check, IsUserOf, case_policy, case_repo, case_user}
use Rattle.std.specs.Bool.{⊤}
use Rattle.std.proofs.lemmas.Bool.{true≢false}
use Rattle.model.specs.Answers.{Plan}
use Rattle.model.specs.Callers.{Caller}
use Rattle.model.specs.Cases.{Case}
use Rattle.desk.specs.declared.cases.Case as code

-- whether the caller may push is asked of the user of the definitions
pub pushes : (case : code.Case) (who : Caller) (ref : List ℕ) (answer : Result ⊤ Denial) → IsUserOf case who
    → may_push (case_policy case) (case_user case) (case_repo case).name ref ≡ answer → may_push (case_policy case) who.user (case_repo case).name ref ≡ answer
pushes case who ref answer user may = subst (λ (u : List ℕ). may_push (case_policy case) u (case_repo case).name ref ≡ answer) user may

module _ (c : Case) (ref : List ℕ) where
  abbrev may : Result ⊤ Denial
  may = may_push c.setting.policy c.caller.user c.repo.name ref

  -- the verdict on verification, by the check of the size that was found
  pub verify_by : (asked : VerifyForm) (found : Option ℕ) (checked : Result ⊤ Denial) → ref_or_default asked.ref c.repo ≡ ref → may ≡ Ok tt → size_of asked.name c.state ≡ found
      → size_check found asked.size ≡ checked → verify_verdict c asked ≡ (checked >>= λ same. Ok confirms)
  verify_by asked found checked named allowed is sized = rw (named, allowed, is) (by_check found) ∙ ap (λ v. v >>= λ same. Ok confirms) sized
    where
      -- the two checks of a size, one after the other, are one check
      by_check : (found : Option ℕ) → (by_rules (ok_or found V1) >>= λ stored. by_rules (check (stored == asked.size) V2) >>= λ same. Ok confirms) ≡ (size_check found asked.size >>= λ same. Ok confirms)
      by_check None = refl
      by_check (Some stored) = refl

  -- the verdict on an upload before its bytes, if its name is retired
  pub put_gone : (left : ℕ) (asked : PutForm) → ref_or_default asked.ref c.repo ≡ ref → may ≡ Ok tt → is_gone asked.name c.state ≡ true → put_verdict c left asked ≡ Err (by_rule X4)
  put_gone left asked named allowed gone = rw (named, allowed, gone) refl

  -- if it is not, by whether there is a place for it
  pub put_placed : (left : ℕ) (asked : PutForm) → ref_or_default asked.ref c.repo ≡ ref → may ≡ Ok tt → is_gone asked.name c.state ≡ false → has_place left asked.name c.state ≡ true
      → put_verdict c left asked ≡ Ok (receives asked.name)
  put_placed left asked named allowed kept place = rw (named, allowed, kept, place) refl

  pub put_without : (left : ℕ) (asked : PutForm) → ref_or_default asked.ref c.repo ≡ ref → may ≡ Ok tt → is_gone asked.name c.state ≡ false → has_place left asked.name c.state ≡ false
      → put_verdict c left asked ≡ Err (by_rule X3)
  put_without left asked named allowed kept none = rw (named, allowed, kept, none) refl
