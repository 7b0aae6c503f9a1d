use Rattle.locks.proofs.Prelude.{◌≡◌, pos, filter, map, take, nat_le, IfOk-weaker, repo_text, locks_of, shown, IsOpen, is_from, by_id, AreLocksOf, lock_seen}
use Rattle.locks.proofs.Found.{window_seen}
use Rattle.locks.proofs.finding.window.Goals as goal

pub returns : goal.returns
returns g c = record {
  same = c.locks_from.ensures.same;
  adds = c.locks_from.ensures.adds;
  each = λ honest world h.
      let t = shown g.S.State c.args.store.now in
      let repo = repo_text c.args.repo.now in
      IfOk-weaker c.locks_from.result
      (λ found. IsOpen g.S.State c.args.store.now × AreLocksOf found.items (take 64 (by_id (filter (is_from repo (pos c.args.id)) t.locks))))
      (λ found. map (lock_seen repo) found.items ≡ take 64 (filter (λ l. nat_le c.args.id l.id) (locks_of repo world)))
      (λ found is. window_seen t world repo c.args.id found.items (h.shows (c.locks_from.ensures.same.was_honest honest) is.0) h.laws is.1)
      (c.locks_from.ensures.answers honest h.ready);
}
