use Rattle.std.proofs.Common.{rules}
use Rattle.command_line.proofs.Numbers.{spelled, unread, zero_unspelled}
use Rattle.command_line.proofs.words.decimal_in.Goals as goal

pub returns-then-has_leading_zero-clause-none : goal.returns-then-has_leading_zero-clause-none
returns-then-has_leading_zero-clause-none c =
    let zero = c.has_leading_zero.ensures.0 c.if-has_leading_zero.true in
    zero_unspelled c.args.text.now zero.0 zero.1

pub returns-clause-some : goal.returns-clause-some
returns-clause-some c = rw c.number_in.ensures (spelled c.args.text.now (λ more zero. search rules))

pub returns-clause-none : goal.returns-clause-none
returns-clause-none c = rw c.number_in.ensures (unread c.args.text.now)
