use Rattle.tables.proofs.Prelude.{refl, rules, w64, to_z-of_z, remove_row}
use Rattle.tables.specs.Statements.{writing}
use Rattle.tables.proofs.uploads.row_out.Goals as goal

pub returns-clause-does : goal.returns-clause-does
unfolding writing
returns-clause-does g c = record {
  within = c.change.ensures.within;
  ok = c.change.ensures.ok (remove_row c.args.id.number) refl (rw (c.params-to_sql.ensures, to_z-of_z w64 c.args.id.number (search rules)));
}
