use Rattle.desk.proofs.Prelude.{◌∙◌, ℕ, refl, sym, subst, put_verdict, put_asked, case_repo, case_seen}
use Rattle.desk.specs.Objects.{DeniesIf}
use Rattle.desk.proofs.Early.{refused_first}
use Rattle.desk.proofs.Puts.{received_put}
use Rattle.desk.proofs.Reading.{as_reads}
use Rattle.desk.proofs.uploading.put.Goals as goal

pub returns-in-Err : goal.returns-in-Err
returns-in-Err g c =
    let case = c.args.case.now in
    let asked = put_asked c.args.asked.now in
    let refused = c.in-Err.refused in
    refused_first (g.met.B.Body.moves_none c.args.content.now) refused c.refused_upload.result refl (as_reads g.S.State (case_repo case) _ c.in-Err.ensures.reads c.in-Err.ensures.each)
    (λ world denied who user size sized. subst (λ (n : ℕ). DeniesIf refused (put_verdict (case_seen world case who) n asked)) (c.left.ensures ∙ sym (sized refl)) (denied who user)) c.refused_upload.ensures

pub returns-in-Ok : goal.returns-in-Ok
returns-in-Ok g c =
    let came = c.receive-received.ensures in
    received_put c.args.case.now (put_asked c.args.asked.now) c.receive-received.result c.left.ensures (as_reads g.S.State (case_repo c.args.case.now) _ c.in-Ok.ensures.reads c.in-Ok.ensures.each) came.bytes.1 c.name.ensures came.bytes.2 came.whole came.fault
    c.received_reply.ensures.shows c.received_reply.ensures.read
