use Rattle.uploads.proofs.Prelude.{find, IfOk-weaker, repo_text, shown, IsOpen, IsObjectOf}
use Rattle.tables.specs.Statements.{is_object}
use Rattle.uploads.specs.Finding.{Finds}
use Rattle.uploads.proofs.Found.{finds_by}
use Rattle.uploads.proofs.finding.find.Goals as goal

pub returns : goal.returns
returns g c = record {
  same = c.object.ensures.same;
  adds = c.object.ensures.adds;
  each = λ honest world h.
      let old = c.args.store.now in
      let new = c.object.new.self in
      let repo = repo_text c.args.repo.now in
      IfOk-weaker c.object.result
      (λ found. IsOpen g.S.State old × IsObjectOf found (find (is_object repo c.args.oid.now) (shown g.S.State old).uploads))
      (Finds g.S.State world new repo c.args.oid.now)
      (λ found is. finds_by g.S.State old new world repo c.args.oid.now h.ready c.object.ensures.same (h.shows (c.object.ensures.same.was_honest honest) is.0) h.laws found is.1)
      (c.object.ensures.answers honest h.ready);
}
