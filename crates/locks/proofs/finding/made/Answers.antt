use Rattle.locks.proofs.Prelude.{◌≡◌, ◌∙◌, pos, IfOk-weaker, repo_text, shown, IsOpen, made_of}
use Rattle.locks.proofs.Found.{same_number}
use Rattle.locks.proofs.finding.made.Goals as goal

pub returns : goal.returns
returns g c = record {
  same = c.made.ensures.same;
  adds = c.made.ensures.adds;
  each = λ honest world h.
      let repo = repo_text c.args.repo.now in
      IfOk-weaker c.made.result
      (λ n. IsOpen g.S.State c.args.store.now × (pos n ≡ made_of repo (shown g.S.State c.args.store.now)))
      (λ n. n ≡ world.made repo)
      (λ n is. same_number n (world.made repo) (is.1 ∙ (h.shows (c.made.ensures.same.was_honest honest) is.0).made repo))
      (c.made.ensures.answers honest h.ready);
}
