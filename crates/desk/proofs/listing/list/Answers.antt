use Rattle.desk.proofs.Prelude.{◌≡◌, ◌∙◌, Ok, Err, sym, ap, ap₂, filter, may_list, Page, lists, page_of, list_asked, cursor_or_first, page_seen, is_wanted, allow_on, case_policy, case_repo, case_user, denial_view}
use Rattle.std.specs.Prelude.{⊤}
use Rattle.desk.proofs.Showing.{list_by, listed_alike}
use Rattle.desk.proofs.Reading.{denied_reading, refused_reading, replied_reading, unread}
use Rattle.desk.proofs.listing.list.Goals as goal

pub returns-in_err-cursor : goal.returns-in_err-cursor
returns-in_err-cursor g c =
    let case = c.args.case.now in
    let asked = list_asked c.args.asked.now in
    denied_reading _ _ _ (unread g.met.R.RepoReader.reads_none {P = λ _. ⊤} (λ _. tt)) c.from_residual.ensures.1 (λ state none who user. list_by case who user state asked (Err (denial_view c.in_err-cursor.field-0.0)) c.in_err-cursor.ensures)

pub returns-in_err-rows : goal.returns-in_err-rows
returns-in_err-rows g c = refused_reading _ _ _ (unread g.met.R.RepoReader.reads_none {P = λ _. ⊤} (λ _. tt)) c.from_residual-in_err-rows.ensures.1

pub returns-in_err-found : goal.returns-in_err-found
returns-in_err-found g c = refused_reading {P = λ _. ⊤} _ _ _ (record { reads = c.in_err-found.ensures.reads; each = λ honest state shown. tt }) c.from_residual-in_err-found.ensures.1

pub returns-in_err-page_reply : goal.returns-in_err-page_reply
returns-in_err-page_reply g c = refused_reading {P = λ _. ⊤} _ _ _ (record { reads = c.in_ok-found.ensures.reads; each = λ honest state shown. tt }) c.from_residual-in_err-page_reply.ensures.1

pub returns : goal.returns
returns g c =
    let case = c.args.case.now in
    let asked = list_asked c.args.asked.now in
    let cursor = cursor_or_first c.in_ok-cursor.cursor in
    let repo = (case_repo case).name in
    let sees = may_list (case_policy case) (case_user case) in
    replied_reading {P = λ state. page_seen repo c.in_ok-found.found ≡ page_of cursor c.read_limit.result (filter (is_wanted c.filter_of.result sees) state.locks)} _ _ _
    (record { reads = c.in_ok-found.ensures.reads; each = λ honest state shown. c.in_ok-found.ensures.page honest state shown sees (λ row. ap₂ (λ policy question. allow_on policy question row) c.in_ok-rows.ensures.policy c.in_ok-rows.ensures.question) }) (c.in_ok-page_reply.ensures repo)
    (λ state cut who user.
    list_by case who user state asked (Ok cursor) c.in_ok-cursor.ensures
    ∙ ap (λ (page : Page). Ok (lists page)) (sym (cut ∙ ap₂ (page_of cursor) c.read_limit.ensures (listed_alike case who user state c.filter_of.result asked c.filter_of.ensures))))
