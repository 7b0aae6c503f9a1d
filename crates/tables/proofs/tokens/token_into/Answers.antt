use Rattle.tables.proofs.Prelude.{refl, w64, to_z-of_z, add_token, asked_token}
use Rattle.tables.specs.Statements.{writing}
use Rattle.tables.proofs.tokens.token_into.Goals as goal

pub returns-clause-does : goal.returns-clause-does
unfolding writing
returns-clause-does g c = record {
  within = c.change.ensures.within;
  ok = c.change.ensures.ok (add_token (asked_token c.args.token.now)) refl
      (rw (c.params-to_sql.ensures, c.as_slice.ensures, c.params-to_sql-2.ensures, c.params-to_sql-3.ensures, c.params-to_sql-4.ensures, c.params-to_sql-5.ensures, c.as_str.ensures.value, c.as_str-2.ensures.value, c.code_of.ensures, to_z-of_z w64 c.second_of.result record { sfits = c.second_of.type_inv }, c.second_of.ensures));
}
