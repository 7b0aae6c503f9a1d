use Rattle.desk.proofs.Prelude.{◌∙◌, sym}
use Rattle.refinement.proofs.ReadOnly.{reads_weaker}
use Rattle.desk.proofs.viewing.seen_retired.Goals as goal

pub returns-then-sees_objects : goal.returns-then-sees_objects
returns-then-sees_objects g c =
    reads_weaker g.S.State c.args.store.now c.retired.new.store _ _ (λ world laws found. rw (sym c.sees_objects.ensures ∙ c.if-sees_objects.true) found) c.retired.ensures
