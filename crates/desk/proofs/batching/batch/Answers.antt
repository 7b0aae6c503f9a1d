use Rattle.desk.proofs.Prelude.{◌≡◌, ◌∙◌, ℕ, List, Option, Ok, map, sym, ap, subst, ref_text, ref_or_default, offers, offer_at, batch_asked, case_repo, denial_view, IsReplyOf}
use Rattle.forms.specs.declared.offers.Offer.{Offer}
use Rattle.desk.proofs.Showing.{read_alike}
use Rattle.std.specs.Prelude.{⊤}
use Rattle.desk.proofs.Reading.{denied_reading, refused_reading, replied_reading, unread}
use Rattle.desk.proofs.Offering.{batch_denied, batch_allowed}
use Rattle.desk.proofs.batching.batch.Goals as goal

pub returns-in_err-objects : goal.returns-in_err-objects
returns-in_err-objects g c = refused_reading _ _ _ c.in_err-objects.ensures c.from_residual-in_err-objects.ensures.1

pub returns-in_err-batch_reply : goal.returns-in_err-batch_reply
returns-in_err-batch_reply g c = refused_reading _ _ _ c.in_ok-objects.ensures c.from_residual-in_err-batch_reply.ensures.1

pub returns : goal.returns
returns g c =
    let case = c.args.case.now in
    let asked = batch_asked c.args.asked.now in
    let links = c.links_of-links.result in
    let some = c.in_ok-objects.objects.items in
    let ref = ref_text c.ref_or_default-ref_name.result.now in
    let named : ref_or_default asked.ref (case_repo case) ≡ ref =
    sym (c.ref_or_default-ref_name.ensures ∙ ap (λ (o : Option (List ℕ)). ref_or_default o (case_repo case)) (read_alike ref_text c.args.asked.now.ref_name c.as_ref.result c.as_ref.ensures.value)) in
    let reply = c.in_ok-batch_reply.field-0 in
    let shows : IsReplyOf reply (Ok (offers (map (offer_at links) some))) =
    subst (λ (os : List Offer). IsReplyOf reply (Ok (offers (map (offer_at links) os)))) c.as_slice.ensures.value c.in_ok-batch_reply.ensures in
    replied_reading _ _ reply c.in_ok-objects.ensures shows
    (λ state judged who is_caller. batch_allowed case who state ref links is_caller c.links_of-links.ensures asked some named c.in_ok-may_batch.ensures judged)

pub returns-in_err-may_batch : goal.returns-in_err-may_batch
returns-in_err-may_batch g c =
    let case = c.args.case.now in
    let asked = batch_asked c.args.asked.now in
    let ref = ref_text c.ref_or_default-ref_name.result.now in
    let named : ref_or_default asked.ref (case_repo case) ≡ ref =
    sym (c.ref_or_default-ref_name.ensures ∙ ap (λ (o : Option (List ℕ)). ref_or_default o (case_repo case)) (read_alike ref_text c.args.asked.now.ref_name c.as_ref.result c.as_ref.ensures.value)) in
    denied_reading _ _ _ (unread g.met.R.RepoReader.reads_none {P = λ _. ⊤} (λ _. tt)) c.from_residual.ensures.1
    (λ state none who is_caller. batch_denied case who state ref asked (denial_view c.in_err-may_batch.field-0.0) is_caller.user named c.in_err-may_batch.ensures)
