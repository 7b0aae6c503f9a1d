use Rattle.tables.proofs.Prelude.{refl, rules, w64, to_z-of_z, remove_chunks_from}
use Rattle.tables.specs.Statements.{writing}
use Rattle.tables.proofs.uploads.chunks_from_out.Goals as goal

pub returns-clause-does : goal.returns-clause-does
unfolding writing
returns-clause-does g c = record {
  within = c.change.ensures.within;
  ok = c.change.ensures.ok (remove_chunks_from c.args.id.number c.args.n) refl (rw (c.params-to_sql.ensures, c.params-to_sql-2.ensures, to_z-of_z w64 c.args.id.number (search rules)));
}
