use Rattle.tables.proofs.Prelude.{pos, refl, w64, to_z-of_z, add_lock, asked_lock}
use Rattle.tables.specs.Statements.{writing}
use Rattle.tables.proofs.locks.lock_into.Goals as goal

pub returns-clause-does : goal.returns-clause-does
unfolding writing
returns-clause-does g c = record {
  within = c.change.ensures.within;
  ok = c.change.ensures.ok (add_lock record (asked_lock c.args.lock.now) { id = pos c.args.id }) refl
      (rw (c.params-to_sql.ensures, c.params-to_sql-2.ensures, c.params-to_sql-3.ensures, c.params-to_sql-4.ensures, c.params-to_sql-5.ensures, c.params-to_sql-6.ensures, c.as_str.ensures.value, c.as_str-2.ensures.value, c.as_str-3.ensures.value, c.as_str-4.ensures.value, c.get.ensures.value, to_z-of_z w64 c.second_of.result record { sfits = c.second_of.type_inv }, c.second_of.ensures));
}
