use Rattle.policy.proofs.Prelude.{◌∙◌, sym, refl}
use Rattle.policy.proofs.Documents.{has_only-members_view}
use Rattle.policy.proofs.tables.TableAt.has_only.Goals as goal

pub returns-then-has_only : goal.returns-then-has_only
returns-then-has_only c =
    has_only-members_view c.args.keys.now c.args.self.now.table.now.entries ∙ sym c.has_only.ensures ∙ c.if-has_only.true

pub returns-else-has_only : goal.returns-else-has_only
returns-else-has_only c =
    (has_only-members_view c.args.keys.now c.args.self.now.table.now.entries ∙ sym c.has_only.ensures ∙ c.if-has_only.false, refl)
