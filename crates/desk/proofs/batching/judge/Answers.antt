use mir.Syntax.{w128}
use Rattle.std.proofs.lemmas.Int.{to_z-of_z}
use Rattle.desk.proofs.Prelude.{◌∙◌, ℕ, List, Option, Ok, ap₂, subst, sym, string_bytes, batch_asked, object_asked, IsSound}
use Rattle.std.specs.Prelude.{int_le, pos}
use Rattle.desk.proofs.Offering.{judged_found, judged_gone}
use Rattle.desk.proofs.Reading.{both_read, none_ok, repo_weaker}
use Rattle.desk.proofs.Showing.{read_alike}
use Rattle.desk.proofs.batching.judge.Goals as goal

pub returns-then-branch : goal.returns-then-branch
returns-then-branch g c =
    let named = c.in-Ok.named in
    let object = object_asked c.args.object.now in
    let sound = subst (λ (h : Option (List ℕ)). IsSound h object (Ok named)) (read_alike string_bytes c.args.asked.now.hash_algo c.as_ref.result c.as_ref.ensures.value) c.in-Ok.ensures in
    record {
      reads = c.in_ok-is_gone-in-Ok.ensures.reads;
      each = λ honest state shown room. judged_gone state (batch_asked c.args.asked.now) object named sound (sym c.if-branch.true ∙ c.in_ok-is_gone-in-Ok.ensures.gone honest state shown);
    }

pub returns-in_err-stored-in-Ok : goal.returns-in_err-stored-in-Ok
returns-in_err-stored-in-Ok g c =
    record {
      reads = g.met.R.RepoReader.reads_on _ _ _ c.in_ok-is_gone-in-Ok.ensures.reads c.in_err-stored-in-Ok.ensures.reads;
      each = λ honest state shown room. none_ok _ _ c.from_residual-in_err-stored-in-Ok.result c.from_residual-in_err-stored-in-Ok.ensures.1;
    }

pub returns-in_ok-stored-in-Ok : goal.returns-in_ok-stored-in-Ok
returns-in_ok-stored-in-Ok g c =
    let it = g.met.R.RepoReader in
    let named = c.in-Ok.named in
    let object = object_asked c.args.object.now in
    let sound = subst (λ (h : Option (List ℕ)). IsSound h object (Ok named)) (read_alike string_bytes c.args.asked.now.hash_algo c.as_ref.result c.as_ref.ensures.value) c.in-Ok.ensures in
    let fitting = c.fits-fits.ensures ∙ ap₂ (λ n room. int_le (pos n) room) c.get.ensures.value (to_z-of_z w128 c.args.room c.ranges.room) in
    repo_weaker _
    (λ state both room.
    judged_found state (batch_asked c.args.asked.now) object named c.in_ok-stored-in-Ok.stored c.args.room c.fits-fits.result c.actions_for.result room fitting sound
    (sym c.if-branch.false ∙ both.0) both.1 c.actions_for.ensures)
    (both_read it.reads_on it.was_honest it.shows_still _ c.in_ok-is_gone-in-Ok.ensures.reads c.in_ok-stored-in-Ok.ensures.reads c.in_ok-is_gone-in-Ok.ensures.gone c.in_ok-stored-in-Ok.ensures.size)
