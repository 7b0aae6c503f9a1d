use Rattle.desk.proofs.Prelude.{◌≡◌, ◌∙◌, ℕ, List, Option, Ok, Err, sym, ap, option_map, ref_text, ref_or_default, verify_asked, size_of, case_repo, case_with, denial_view, ReadsRepo}
use Rattle.std.specs.Prelude.{⊤}
use Rattle.desk.proofs.Showing.{read_alike}
use Rattle.desk.proofs.Pushing.{pushes, verify_by}
use Rattle.desk.proofs.Reading.{denied_reading, refused_reading, replied_reading}
use Rattle.desk.proofs.checking.verify.Goals as goal

pub returns-in_err-found : goal.returns-in_err-found
returns-in_err-found g c = refused_reading {P = λ _. ⊤} _ _ _ (record { reads = c.in_err-found.ensures.reads; each = λ honest state shown. tt }) c.from_residual-in_err-found.ensures.1

pub returns-in_err-check_size : goal.returns-in_err-check_size
returns-in_err-check_size g c =
    let case = c.args.case.now in
    let asked = verify_asked c.args.asked.now in
    let ref = ref_text c.ref_or_default.result.now in
    let named : ref ≡ ref_or_default asked.ref (case_repo case) =
    c.ref_or_default.ensures ∙ ap (λ (o : Option (List ℕ)). ref_or_default o (case_repo case)) (read_alike ref_text c.args.asked.now.ref_name c.as_ref.result c.as_ref.ensures.value) in
    denied_reading {P = λ state. c.in_ok-found.found ≡ size_of asked.name state} _ _ _ (record { reads = c.in_ok-found.ensures.reads; each = c.in_ok-found.ensures.size }) c.from_residual-in_err-check_size.ensures.1
    (λ state found who user.
    verify_by (case_with case who state) ref asked c.in_ok-found.found (Err (denial_view c.in_err-check_size.field-0.0)) (sym named) (pushes case who ref (Ok tt) user c.in_ok-may_push.ensures) (sym found) c.in_err-check_size.ensures)

pub returns : goal.returns
returns g c =
    let case = c.args.case.now in
    let asked = verify_asked c.args.asked.now in
    let ref = ref_text c.ref_or_default.result.now in
    let named : ref ≡ ref_or_default asked.ref (case_repo case) =
    c.ref_or_default.ensures ∙ ap (λ (o : Option (List ℕ)). ref_or_default o (case_repo case)) (read_alike ref_text c.args.asked.now.ref_name c.as_ref.result c.as_ref.ensures.value) in
    replied_reading {P = λ state. c.in_ok-found.found ≡ size_of asked.name state} _ _ _ (record { reads = c.in_ok-found.ensures.reads; each = c.in_ok-found.ensures.size }) c.confirmation.ensures.confirmed
    (λ state found who user.
    verify_by (case_with case who state) ref asked c.in_ok-found.found (Ok tt) (sym named) (pushes case who ref (Ok tt) user c.in_ok-may_push.ensures) (sym found) c.in_ok-check_size.ensures)
