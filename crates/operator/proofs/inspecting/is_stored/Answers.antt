use Rattle.operator.proofs.Prelude.{Reads, err_from_is_err_and, repo_text, sym}
use Rattle.std.proofs.Common.{true≢false}
use Rattle.store.specs.Shown.{shown}
use Rattle.uploads.proofs.Found.{finds_by}
use Rattle.operator.proofs.Damaged.{found_whole}
use Rattle.operator.proofs.Sound.{found_same, none_same}
use Rattle.operator.proofs.inspecting.is_stored.Goals as goal

pub returns-in_err-found-clause-world : goal.returns-in_err-found-clause-world
returns-in_err-found-clause-world g c =
    let p = err_from_is_err_and c.from_residual.result c.from_residual.ensures.1 in
    record { same = c.object.ensures.same; adds = c.object.ensures.adds; each = λ honest world h. rw p.1 tt }

pub returns-in-Some-clause-world : goal.returns-in-Some-clause-world
returns-in-Some-clause-world g c = record {
  same = c.object.ensures.same;
  adds = c.object.ensures.adds;
  each = λ honest world h same.
      let said = c.in_ok-found.ensures.answers honest h.ready in
      let found = finds_by g.S.State c.args.store.now c.object.new.self world (repo_text c.args.row.now.repo) c.args.row.now.oid h.ready c.object.ensures.same (h.shows (c.object.ensures.same.was_honest honest) said.0) h.laws _ said.1 in
      found_whole g.S.State world c.object.new.self c.args.row.now c.in-Some.found h.laws (rw c.in-Some.is at found) (c.is_same.ensures.id same) (c.is_same.ensures.size same);
}

pub returns-in-Some-clause-exact : goal.returns-in-Some-clause-exact
returns-in-Some-clause-exact g c honest ready =
    let said = c.in_ok-found.ensures.answers honest ready in
    (said.0, found_same (shown g.S.State c.args.store.now) c.args.row.now c.in-Some.found c.is_same.result (rw c.in-Some.is at said.1) c.is_same.ensures.both)

pub returns-in-None-clause-world : goal.returns-in-None-clause-world
returns-in-None-clause-world g c = record {
  same = c.object.ensures.same;
  adds = c.object.ensures.adds;
  each = λ honest world h no. absurd (true≢false (sym no));
}

pub returns-in-None-clause-exact : goal.returns-in-None-clause-exact
returns-in-None-clause-exact g c honest ready =
    let said = c.in_ok-found.ensures.answers honest ready in
    (said.0, none_same (shown g.S.State c.args.store.now) c.args.row.now (rw c.in-None.is at said.1))
