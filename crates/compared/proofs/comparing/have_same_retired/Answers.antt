use Rattle.tables.specs.Listing.{read_retired}
use Rattle.compared.proofs.Comparisons.{compared, rows_decided}
use Rattle.compared.proofs.comparing.have_same_retired.Goals as goal

pub returns : goal.returns
returns g c =
    compared g.A.State g.B.State _ _ _ _ c.in_ok-ours.ours c.in_ok-theirs.theirs _ _ c.are_same.result _
    (λ s t p q. rows_decided read_retired c.are_same.result c.deref.result.now c.deref-2.result.now c.in_ok-ours.ours.items c.in_ok-theirs.theirs.items _ _
    c.deref.ensures.value c.deref-2.ensures.value p q c.are_same.ensures)
    c.in_ok-ours.ensures c.in_ok-theirs.ensures
