use Rattle.forms.proofs.Prelude.{◌∙◌, ap, sym, items_view}
use Rattle.forms.proofs.Batches.{found_or, none_found}
use Rattle.forms.proofs.batch.has_basic.Goals as goal

pub loop-item-init : goal.loop-item-init
loop-item-init c =
    none_found c.args.items.now ∙ ap (λ found. found_or found (items_view c.args.items.now)) (sym c.is_empty-found.ensures)
