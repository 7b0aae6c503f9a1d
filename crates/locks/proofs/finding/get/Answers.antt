use Rattle.locks.proofs.Prelude.{◌≡◌, pos, find, option_map, IfOk-weaker, repo_text, shown, IsOpen, has_id, IsLockOf, lock_seen, lock_with}
use Rattle.locks.proofs.Found.{id_seen}
use Rattle.locks.proofs.finding.get.Goals as goal

pub returns : goal.returns
returns g c = record {
  same = c.lock_with_id.ensures.same;
  adds = c.lock_with_id.ensures.adds;
  each = λ honest world h.
      let t = shown g.S.State c.args.store.now in
      let repo = repo_text c.args.repo.now in
      IfOk-weaker c.lock_with_id.result
      (λ found. IsOpen g.S.State c.args.store.now × IsLockOf found (find (has_id repo (pos c.args.id)) t.locks))
      (λ found. option_map (lock_seen repo) found ≡ lock_with repo c.args.id world)
      (λ found is. id_seen t world repo c.args.id found (h.shows (c.lock_with_id.ensures.same.was_honest honest) is.0) h.laws is.1)
      (c.lock_with_id.ensures.answers honest h.ready);
}
