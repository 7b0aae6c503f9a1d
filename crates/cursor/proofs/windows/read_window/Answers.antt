use Rattle.cursor.proofs.Prelude.{◌∙◌, ap, repo_text, is_wanted, next_start}
use Rattle.cursor.proofs.Joined.{window_kept}
use Rattle.cursor.proofs.windows.read_window.Goals as goal

pub returns-clause-world : goal.returns-clause-world
returns-clause-world g c = record {
  same = c.in_ok-rows.ensures.same;
  adds = c.in_ok-rows.ensures.adds;
  each = λ honest world h sees answers.
      let repo = repo_text c.args.repo.now in
      window_kept repo world (is_wanted c.args.wanted.now sees) c.args.start c.in_ok-rows.rows.items c.keep_wanted.new.rows.items c.in_ok-next.next h.laws
      (c.in_ok-rows.ensures.each honest world h) (c.in_ok-next.ensures.next ∙ ap next_start c.as_slice.ensures.value) (c.keep_wanted.ensures repo sees answers);
}
