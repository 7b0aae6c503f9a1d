use Rattle.desk.proofs.Prelude.{◌≡◌, ◌∙◌, List, ℕ, Option, Ok, sym, ap, ref_text, ref_or_default, put_asked, case_repo, case_with, X3, X4}
use Rattle.desk.specs.declared.cases.Denial.TheVariants as denied
use Rattle.desk.proofs.Pushing.{put_gone, put_placed, put_without, pushes}
use Rattle.desk.proofs.Reading.{permits_denial, both_read, repo_weaker}
use Rattle.desk.proofs.Showing.{read_alike}
use Rattle.desk.proofs.uploading.may_upload.Goals as goal

pub returns-then-branch : goal.returns-then-branch
returns-then-branch g c =
    let case = c.args.case.now in
    let asked = put_asked c.args.asked.now in
    let ref = ref_text c.ref_or_default.result.now in
    let named : ref_or_default asked.ref (case_repo case) ≡ ref =
    sym (c.ref_or_default.ensures ∙ ap (λ (o : Option (List ℕ)). ref_or_default o (case_repo case)) (read_alike ref_text c.args.asked.now.ref_name c.as_ref.result c.as_ref.ensures.value)) in
    record {
      reads = c.in_ok-is_gone.ensures.reads;
      each = λ honest state shown who user.
          permits_denial (denied.Rule X4) c.into.result _ c.into.ensures
          (put_gone (case_with case who state) ref c.args.size asked named (pushes case who ref (Ok tt) user c.in_ok-may_push.ensures) (sym (c.in_ok-is_gone.ensures.gone honest state shown) ∙ c.if-branch.true));
    }

pub returns-then-branch-2 : goal.returns-then-branch-2
returns-then-branch-2 g c =
    let it = g.met.R.RepoReader in
    let case = c.args.case.now in
    let asked = put_asked c.args.asked.now in
    let ref = ref_text c.ref_or_default.result.now in
    let named : ref_or_default asked.ref (case_repo case) ≡ ref =
    sym (c.ref_or_default.ensures ∙ ap (λ (o : Option (List ℕ)). ref_or_default o (case_repo case)) (read_alike ref_text c.args.asked.now.ref_name c.as_ref.result c.as_ref.ensures.value)) in
    repo_weaker _
    (λ state both who user.
    put_placed (case_with case who state) ref c.args.size asked named (pushes case who ref (Ok tt) user c.in_ok-may_push.ensures) (sym both.0 ∙ c.if-branch.false) (sym both.1 ∙ c.if-branch-2.true))
    (both_read it.reads_on it.was_honest it.shows_still _ c.in_ok-is_gone.ensures.reads c.in_ok-has_place.ensures.reads c.in_ok-is_gone.ensures.gone c.in_ok-has_place.ensures.each)

pub returns-else-branch-2 : goal.returns-else-branch-2
returns-else-branch-2 g c =
    let it = g.met.R.RepoReader in
    let case = c.args.case.now in
    let asked = put_asked c.args.asked.now in
    let ref = ref_text c.ref_or_default.result.now in
    let named : ref_or_default asked.ref (case_repo case) ≡ ref =
    sym (c.ref_or_default.ensures ∙ ap (λ (o : Option (List ℕ)). ref_or_default o (case_repo case)) (read_alike ref_text c.args.asked.now.ref_name c.as_ref.result c.as_ref.ensures.value)) in
    repo_weaker _
    (λ state both who user.
    permits_denial (denied.Rule X3) c.into-else-branch-2.result _ c.into-else-branch-2.ensures
    (put_without (case_with case who state) ref c.args.size asked named (pushes case who ref (Ok tt) user c.in_ok-may_push.ensures) (sym both.0 ∙ c.if-branch.false) (sym both.1 ∙ c.if-branch-2.false)))
    (both_read it.reads_on it.was_honest it.shows_still _ c.in_ok-is_gone.ensures.reads c.in_ok-has_place.ensures.reads c.in_ok-is_gone.ensures.gone c.in_ok-has_place.ensures.each)
