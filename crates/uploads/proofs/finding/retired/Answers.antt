use Rattle.uploads.proofs.Prelude.{◌∙◌, IfOk-weaker, repo_text, shown}
use Rattle.refinement.proofs.Retired.{names_retired}
use Rattle.uploads.proofs.finding.retired.Goals as goal

pub returns : goal.returns
returns g c = record {
  same = c.retired.ensures.same;
  adds = c.retired.ensures.adds;
  each = λ honest world h.
      let old = c.args.store.now in
      IfOk-weaker c.retired.result _ _ (λ found is. is.1 ∙ names_retired (shown g.S.State old) world (repo_text c.args.repo.now) (h.shows (c.retired.ensures.same.was_honest honest) is.0) h.laws)
      (c.retired.ensures.answers honest h.ready);
}
