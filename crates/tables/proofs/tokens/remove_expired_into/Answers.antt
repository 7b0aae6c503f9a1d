use Rattle.tables.proofs.Prelude.{pos, refl, w64, to_z-of_z, remove_expired}
use Rattle.tables.specs.Statements.{writing}
use Rattle.tables.proofs.tokens.remove_expired_into.Goals as goal

pub returns-clause-count : goal.returns-clause-count
unfolding writing
returns-clause-count g c = c.change.ensures.count (remove_expired (pos c.args.moment)) refl (rw (c.params-to_sql.ensures, to_z-of_z w64 c.second_of.result record { sfits = c.second_of.type_inv }, c.second_of.ensures))

pub returns-clause-does : goal.returns-clause-does
unfolding writing
returns-clause-does g c = record {
  within = c.change.ensures.within;
  ok = c.change.ensures.ok (remove_expired (pos c.args.moment)) refl (rw (c.params-to_sql.ensures, to_z-of_z w64 c.second_of.result record { sfits = c.second_of.type_inv }, c.second_of.ensures));
}
