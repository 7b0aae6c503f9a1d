use Rattle.uploads.proofs.Prelude.{option_map, IfOk-weaker, repo_text, shown, IsOpen, AreUploadsOf, objects_of, Lists}
use Rattle.uploads.proofs.Listed.{lists_by}
use Rattle.uploads.proofs.finding.all.Goals as goal

pub returns : goal.returns
returns g c = record {
  same = c.objects.ensures.same;
  adds = c.objects.ensures.adds;
  each = λ honest world h.
      let old = c.args.store.now in
      let new = c.objects.new.self in
      let repo = option_map (λ r. repo_text r.now) c.args.repo in
      IfOk-weaker c.objects.result
      (λ found. IsOpen g.S.State old × AreUploadsOf found.items (objects_of repo (shown g.S.State old)))
      (λ found. Lists g.S.State world new repo found.items)
      (λ found is. lists_by g.S.State old new world repo h.ready c.objects.ensures.same (h.shows (c.objects.ensures.same.was_honest honest) is.0) found.items is.1)
      (c.objects.ensures.answers honest h.ready);
}
