use Rattle.tables.proofs.Prelude.{refl, rules, option_map, repo_text, state, clean_before, upload_number, asked_upload, IsAbove, after_begin, HasLast}
use Rattle.tables.proofs.Chosen.{chooses_from}
use Rattle.tables.proofs.Replacing.{has_last_begun}
use Rattle.tables.proofs.beginning.begin.Goals as goal

pub returns : goal.returns
returns g c =
    let u = c.args.upload.now in
    let old = c.args.conn.now in
    let begun = c.transaction-tx.result.conn.now in
    let mid = c.begin_into.new.tx.conn.now in
    let did = c.in_ok-id.ensures in
    let last = option_map upload_number c.args.last in
    let given = has_last_begun g.S.Store last (repo_text u.repo.now) old begun c.transaction-tx.ensures.begun in
    let it = chooses_from g.S.Store old begun mid c.finish_with.new.tx.0 c.finish_with.result c.in_ok-id.id c.transaction-tx.ensures.begun c.finish_with.ensures.finishes
    {Given = HasLast last (repo_text u.repo.now) (state g.S.Store old)} (λ id. after_begin (asked_upload u (upload_number id))) (λ t id. IsAbove t (upload_number id)) (c.if-not-is_autocommit.ensures.settled refl)
    (g.met.S.Store.settled c.finish_with.new.tx.0.store) did.within
    (λ h clean inside. did.value ((given h).only (clean_before g.S.Store begun mid _ did.within clean)) clean inside (given h).ready)
    (λ h clean inside. did.ok ((given h).only (clean_before g.S.Store begun mid _ did.within clean)) clean inside (given h).ready) c.finish_with.ensures.answer in
    search (rules, it)
