use Rattle.tables.proofs.Prelude.{refl, rules, w64, to_z-of_z, set_done}
use Rattle.tables.specs.Statements.{writing}
use Rattle.tables.proofs.uploads.done_into.Goals as goal

pub returns-clause-does : goal.returns-clause-does
unfolding writing
returns-clause-does g c = record {
  within = c.change.ensures.within;
  ok = c.change.ensures.ok (set_done c.args.id.number) refl (rw (c.params-to_sql.ensures, to_z-of_z w64 c.args.id.number (search rules)));
}
