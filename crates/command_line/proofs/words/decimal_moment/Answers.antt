use Rattle.std.proofs.Common.{◌∙◌, Option, Some, None, IfNone, IsSome, arith, sym}
use Rattle.std.proofs.lemmas.Fmt.{decimal_injective}
use Rattle.command_line.proofs.words.decimal_moment.Goals as goal

refused : {T : Type 0} (o : Option T) (Q P : Type 0) → (Q → IsSome o) → ((Q → ⊥) → P) → IfNone o P
refused None Q P some so = so (λ q. let no = some q in cc)
refused (Some x) Q P some so = tt

pub returns-clause-none : goal.returns-clause-none
returns-clause-none c =
    refused _ _ _ c.read.ensures.accepted.1 (λ above moment within same.
    let read = decimal_injective c.in_ok-decimal_in.field-0 moment (omega arith) (omega arith) (sym c.in_ok-decimal_in.ensures.some ∙ same) in
    above (omega (arith, read, within)))
