use Rattle.tables.proofs.Prelude.{option_map, ◌∙◌, repo_text, objects_of, shown, with_fact}
use Rattle.tables.proofs.Stores.{looks_reads}
use Rattle.tables.proofs.Store.objects.Goals as goal

pub returns : goal.returns
returns g c =
    looks_reads g.S.Store _ _ _ c.all_uploads.result _ _ c.in_ok-rows.ensures
    (λ clean ready.
    let it = c.in_ok-rows.ensures.answers clean ready in
    with_fact _ _ c.all_uploads.result it.0 (c.all_uploads.ensures (objects_of (option_map (λ r. repo_text r.now) c.args.repo) (shown g.S.Store c.args.self.now)) (c.as_slice.ensures.value ∙ it.1)))
