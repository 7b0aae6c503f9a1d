use Rattle.operator.proofs.Prelude.{rules}
use Rattle.std.specs.Prelude.{nat_lt}
use Rattle.std.proofs.lemmas.Fn.{filter_same}
use Rattle.tables.specs.declared.rows.TokenRow.{TokenRow}
use Rattle.operator.proofs.listing_tokens.keep_valid.Goals as goal

pub returns : goal.returns
returns c = filter_same _ (λ (row : TokenRow). nat_lt c.args.now row.expires) _ (λ x b f k. search rules) _ _ c.retain.ensures.filtered
