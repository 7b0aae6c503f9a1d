use Rattle.std.proofs.Common.{arith, ◌∙◌, sym, inl, inr}
use Rattle.std.proofs.lemmas.Fmt.{decimal_injective}
use Rattle.command_line.proofs.words.decimal_hold.Goals as goal

pub returns-else-seconds-ge1-clause-none : goal.returns-else-seconds-ge1-clause-none
returns-else-seconds-ge1-clause-none c = λ seconds within same.
    let read = decimal_injective c.in_ok-seconds.seconds seconds (omega arith) (omega arith) (sym c.in_ok-seconds.ensures.some ∙ same) in
    elim c.else-seconds-ge1.either [ inl above ↦ omega (arith, read, above.1, within.1) | inr below ↦ omega (arith, read, below, within.0) ]
