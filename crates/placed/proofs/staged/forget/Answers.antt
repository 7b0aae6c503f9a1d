use Rattle.placed.proofs.Prelude.{rules, not, int_eq, upload_number}
use Rattle.std.proofs.lemmas.Fn.{filter_same}
use Rattle.placed.proofs.staged.forget.Goals as goal

pub returns-clause-items : goal.returns-clause-items
returns-clause-items c =
    filter_same _ (λ s. not (int_eq (upload_number s.id) (upload_number c.args.id))) _
    (λ x b f k. search rules) _ _ c.retain.ensures.filtered
