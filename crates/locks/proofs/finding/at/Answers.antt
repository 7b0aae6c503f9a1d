use Rattle.locks.proofs.Prelude.{◌≡◌, find, option_map, IfOk-weaker, repo_text, ref_text, path_text, shown, IsOpen, is_at, IsLockOf, lock_seen, lock_on}
use Rattle.locks.proofs.Found.{at_seen}
use Rattle.locks.proofs.finding.at.Goals as goal

pub returns : goal.returns
returns g c = record {
  same = c.lock_at.ensures.same;
  adds = c.lock_at.ensures.adds;
  each = λ honest world h.
      let t = shown g.S.State c.args.store.now in
      let repo = repo_text c.args.repo.now in
      let ref = ref_text c.args.ref_name.now in
      let path = path_text c.args.path.now in
      IfOk-weaker c.lock_at.result
      (λ found. IsOpen g.S.State c.args.store.now × IsLockOf found (find (is_at repo ref path) t.locks))
      (λ found. option_map (lock_seen repo) found ≡ lock_on repo ref path world)
      (λ found is. at_seen t world repo ref path found (h.shows (c.lock_at.ensures.same.was_honest honest) is.0) h.laws is.1)
      (c.lock_at.ensures.answers honest h.ready);
}
