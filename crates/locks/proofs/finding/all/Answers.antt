use Rattle.locks.proofs.Prelude.{◌≡◌, filter, map, IfOk-weaker, repo_text, locks_of, shown, IsOpen, is_in, by_id, AreLocksOf, lock_seen}
use Rattle.locks.proofs.Found.{locks_seen}
use Rattle.locks.proofs.finding.all.Goals as goal

pub returns : goal.returns
returns g c = record {
  same = c.locks_in.ensures.same;
  adds = c.locks_in.ensures.adds;
  each = λ honest world h.
      let t = shown g.S.State c.args.store.now in
      let repo = repo_text c.args.repo.now in
      IfOk-weaker c.locks_in.result
      (λ found. IsOpen g.S.State c.args.store.now × AreLocksOf found.items (by_id (filter (is_in repo) t.locks)))
      (λ found. map (lock_seen repo) found.items ≡ locks_of repo world)
      (λ found is. locks_seen t world repo found.items (h.shows (c.locks_in.ensures.same.was_honest honest) is.0) h.laws is.1)
      (c.locks_in.ensures.answers honest h.ready);
}
