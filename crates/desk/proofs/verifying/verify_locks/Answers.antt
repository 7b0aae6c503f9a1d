use Rattle.desk.proofs.Prelude.{◌≡◌, ◌∙◌, ℕ, true, List, Option, Ok, Err, refl, sym, ap, ap₂, filter, ref_text, Page, splits, ref_or_default, page_of, verify_locks_asked, cursor_or_first, page_seen, is_wanted, case_repo, case_user, denial_view}
use Rattle.desk.proofs.Showing.{read_alike, ref_alike, verify_by}
use Rattle.std.specs.Prelude.{⊤}
use Rattle.desk.proofs.Reading.{denied_reading, refused_reading, replied_reading, unread}
use Rattle.desk.proofs.verifying.verify_locks.Goals as goal

pub returns-in_err-cursor : goal.returns-in_err-cursor
returns-in_err-cursor g c =
    let case = c.args.case.now in
    let asked = verify_locks_asked c.args.asked.now in
    let ref = ref_text c.ref_or_default-ref_name.result.now in
    let named : ref ≡ ref_or_default asked.ref (case_repo case) =
    c.ref_or_default-ref_name.ensures ∙ ap (λ (o : Option (List ℕ)). ref_or_default o (case_repo case)) (read_alike ref_text c.args.asked.now.ref_name c.as_ref.result c.as_ref.ensures.value) in
    denied_reading _ _ _ (unread g.met.R.RepoReader.reads_none {P = λ _. ⊤} (λ _. tt)) c.from_residual.ensures.1 (λ state none who user. verify_by case who user state asked ref (Err (denial_view c.in_err-cursor.field-0.0)) named c.in_err-cursor.ensures)

pub returns-in_err-found : goal.returns-in_err-found
returns-in_err-found g c = refused_reading {P = λ _. ⊤} _ _ _ (record { reads = c.in_err-found.ensures.reads; each = λ honest state shown. tt }) c.from_residual-in_err-found.ensures.1

pub returns-in_err-split_reply : goal.returns-in_err-split_reply
returns-in_err-split_reply g c = refused_reading {P = λ _. ⊤} _ _ _ (record { reads = c.in_ok-found.ensures.reads; each = λ honest state shown. tt }) c.from_residual-in_err-split_reply.ensures.1

pub returns : goal.returns
returns g c =
    let case = c.args.case.now in
    let asked = verify_locks_asked c.args.asked.now in
    let ref = ref_text c.ref_or_default-ref_name.result.now in
    let named : ref ≡ ref_or_default asked.ref (case_repo case) =
    c.ref_or_default-ref_name.ensures ∙ ap (λ (o : Option (List ℕ)). ref_or_default o (case_repo case)) (read_alike ref_text c.args.asked.now.ref_name c.as_ref.result c.as_ref.ensures.value) in
    let cursor = cursor_or_first c.in_ok-cursor.cursor in
    let repo = (case_repo case).name in
    let user = case_user case in
    replied_reading {P = λ state. page_seen repo c.in_ok-found.found ≡ page_of cursor c.read_limit.result (filter (is_wanted c.of_ref.result (λ _. true)) state.locks)} _ _ _
    (record { reads = c.in_ok-found.ensures.reads; each = λ honest state shown. c.in_ok-found.ensures.page honest state shown (λ _. true) (λ row. refl) }) (c.in_ok-split_reply.ensures repo)
    (λ state cut who is_user.
    verify_by case who is_user state asked ref (Ok cursor) named c.in_ok-cursor.ensures
    ∙ ap (λ (page : Page). Ok (splits user page)) (sym (cut ∙ ap₂ (page_of cursor) c.read_limit.ensures (ref_alike case who is_user state c.of_ref.result ref c.of_ref.ensures))))
