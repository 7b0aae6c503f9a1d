use Rattle.forms.proofs.Prelude.{◌≡◌, drop, items_view, has_basic_in}
use Rattle.forms.proofs.Batches.{found_or}
use Rattle.forms.proofs.batch.has_basic.Given as goal

-- what was found so far, and the items still to come
abbrev pub invariant-loop-item : goal.invariant-loop-item
invariant-loop-item l =
    has_basic_in (items_view l.items) ≡ found_or l.found (items_view (drop l.item-index l.items))
