use Rattle.uploads.proofs.Prelude.{sym, ◌∙◌, IfOk-weaker, repo_text, shown}
use Rattle.refinement.proofs.Retired.{retired_known}
use Rattle.uploads.proofs.finding.is_retired.Goals as goal

pub returns : goal.returns
returns g c = record {
  same = c.is_retired.ensures.same;
  adds = c.is_retired.ensures.adds;
  each = λ honest world h.
      let old = c.args.store.now in
      IfOk-weaker c.is_retired.result _ _ (λ found is. sym is.1 ∙ retired_known (shown g.S.State old) world (repo_text c.args.repo.now) c.args.oid.now (h.shows (c.is_retired.ensures.same.was_honest honest) is.0) h.laws)
      (c.is_retired.ensures.answers honest h.ready);
}
