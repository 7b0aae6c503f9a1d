use Rattle.std.proofs.Common.{rules, ◌∙◌}
use Rattle.std.proofs.lemmas.Fn.{filter_same}
use Rattle.compared.proofs.Comparisons.{compared, uploads_decided}
use Rattle.compared.proofs.comparing.have_same_uploads.Goals as goal

pub returns : goal.returns
returns g c =
    compared g.A.State g.B.State _ _ _ _ c.in_ok-ours.ours c.in_ok-theirs.theirs _ _ c.are_same.result _
    (λ s t p q. uploads_decided c.are_same.result c.deref.result.now c.deref-2.result.now c.in_ok-ours.ours.items c.in_ok-theirs.theirs.items s.uploads t.uploads
    (c.deref.ensures.value ∙ filter_same _ (λ m. m.is_complete) _ (λ x b f k. search rules) _ _ c.retain.ensures.filtered)
    c.deref-2.ensures.value p q c.are_same.ensures)
    c.in_ok-ours.ensures c.in_ok-theirs.ensures
