use Rattle.desk.proofs.Prelude.{◌∙◌, map, ap, repo_text}
use Rattle.refinement.proofs.ReadOnly.{reads_weaker}
use Rattle.desk.proofs.Viewed.{objects_shown}
use Rattle.desk.specs.Views.{size_of_row}
use Rattle.desk.proofs.viewing.objects_in.Goals as goal

pub returns : goal.returns
returns g c =
    reads_weaker g.S.State c.args.store.now c.all.new.store _ _
    (λ world laws found.
    c.in_ok-sizes_from.ensures ∙ ap (map size_of_row) c.as_slice.ensures.value ∙ objects_shown g.S.State c.all.new.store world (repo_text c.args.repo.now) c.in_ok-rows.rows.items laws found)
    c.in_ok-rows.ensures
