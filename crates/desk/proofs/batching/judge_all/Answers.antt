use mir.Syntax.{w128}
use mir.Val.{of_z, to_z}
use Rattle.desk.proofs.Prelude.{◌∙◌, ◌++◌, ◌∷◌, [], ◌≤◌, take, length, List, sym, ap, subst, rules, take_more, take_all, repo_view, batch_asked, ReadsRepo}
use Rattle.forms.specs.declared.batch.BatchObject.{BatchObject}
use Rattle.desk.proofs.Offering.{HasJudged, judged_more}
use Rattle.desk.proofs.Reading.{none_ok, repo_then, repo_weaker}
use Rattle.desk.proofs.batching.judge_all.Goals as goal

pub returns-in_err-actions : goal.returns-in_err-actions
returns-in_err-actions g c =
    let it = g.met.R.RepoReader in
    repo_then it.reads_on it.was_honest it.shows_still (λ state so_far failed. none_ok _ _ c.from_residual-in_err-actions.result c.from_residual-in_err-actions.ensures.1) c.loop-object.invariant c.in_err-actions.ensures

pub returns-in_err-add_offer : goal.returns-in_err-add_offer
returns-in_err-add_offer g c =
    let it = g.met.R.RepoReader in
    repo_then it.reads_on it.was_honest it.shows_still (λ state so_far failed. none_ok _ _ c.from_residual-in_err-add_offer.result c.from_residual-in_err-add_offer.ensures.1) c.loop-object.invariant c.in_ok-actions.ensures

pub loop-object-preserved : goal.loop-object-preserved
loop-object-preserved g c =
    let it = g.met.R.RepoReader in
    let asked = batch_asked c.args.asked.now in
    let room = to_z w128 (of_z w128 c.in_ok-room.room) in
    let items = c.as_slice-object-items.result.now in
    let some = c.loop-object.offers.items in
    let more = c.add_offer.new.offers.items in
    let before = take c.loop-object.object-index items in
    subst (λ (objects : List BatchObject). ReadsRepo g.R.RepoReader c.args.reader.now c.judge.new.reader (repo_view c.args.repo.now) (HasJudged asked room more objects))
    (sym (take_more items c.loop-object.object-index c.object-item.result c.loop-object-test.true ∙ ap (λ (o : BatchObject). before ++ o ∷ []) (sym c.object-item.is)))
    (repo_then it.reads_on it.was_honest it.shows_still {P = HasJudged asked room some before}
    (λ state so_far judged. judged_more asked room state some more before c.object-item.result c.in_ok-actions.actions so_far (judged so_far.room_is) c.in_ok-add_offer.ensures)
    c.loop-object.invariant c.in_ok-actions.ensures)

pub returns : goal.returns
returns g c =
    let items = c.as_slice-object-items.result.now in
    let past : length items ≤ c.loop-object.object-index = search rules in
    repo_weaker _ (λ state all. all.judged)
    (subst (λ (objects : List BatchObject). ReadsRepo g.R.RepoReader c.args.reader.now c.loop-object.reader (repo_view c.args.repo.now) (HasJudged (batch_asked c.args.asked.now) (to_z w128 (of_z w128 c.in_ok-room.room)) c.loop-object.offers.items objects))
    (take_all c.loop-object.object-index items past ∙ c.as_slice-object-items.ensures.value) c.loop-object.invariant)
