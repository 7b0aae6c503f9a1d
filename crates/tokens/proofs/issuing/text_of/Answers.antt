use Rattle.tokens.proofs.Prelude.{rules}
use Rattle.tokens.proofs.Digits.{hex_64}
use Rattle.tokens.proofs.issuing.text_of.Goals as goal

pub returns-in_err-encode-clause-digits : goal.returns-in_err-encode-clause-digits
returns-in_err-encode-clause-digits c = hex_64 c.args.random.now (search rules) (λ i. search rules)

pub returns-clause-digits : goal.returns-clause-digits
returns-clause-digits c = hex_64 c.args.random.now (search rules) (λ i. search rules)
