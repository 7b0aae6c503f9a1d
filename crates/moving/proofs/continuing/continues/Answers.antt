use Rattle.std.proofs.Common.{rules, ◌≡◌, ◌∙◌, length}
use Rattle.compared.proofs.Comparisons.{compared}
use Rattle.moving.proofs.ListedObjects.{first_decided}
use Rattle.moving.proofs.continuing.continues.Goals as goal

pub returns : goal.returns
returns g c =
    let count : c.len.result ≡ length c.in_ok-copied.copied.items = search rules in
    compared g.A.State g.B.State _ _ _ _ c.in_ok-objects.objects c.in_ok-copied.copied _ _ c.are_same_uploads.result _
    (λ s t ours theirs. first_decided c.are_same_uploads.result c.in_ok-copied.copied.items c.in_ok-objects.objects.items
    c.deref.result.now c.deref-2.result.now c.len.result s t ours theirs count c.deref.ensures.value
    (c.deref-2.ensures.value ∙ c.truncate.ensures.items) c.are_same_uploads.ensures)
    c.in_ok-objects.ensures c.in_ok-copied.ensures
