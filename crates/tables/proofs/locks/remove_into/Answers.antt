use Rattle.tables.proofs.Prelude.{refl, repo_text, remove_lock}
use Rattle.tables.specs.Statements.{writing}
use Rattle.tables.proofs.locks.remove_into.Goals as goal

pub returns-clause-count : goal.returns-clause-count
unfolding writing
returns-clause-count g c = c.change.ensures.count (remove_lock (repo_text c.args.repo.now) c.args.id) refl (rw (c.params-to_sql.ensures, c.params-to_sql-2.ensures, c.as_str.ensures.value, c.get.ensures.value))

pub returns-clause-does : goal.returns-clause-does
unfolding writing
returns-clause-does g c = record {
  within = c.change.ensures.within;
  ok = c.change.ensures.ok (remove_lock (repo_text c.args.repo.now) c.args.id) refl (rw (c.params-to_sql.ensures, c.params-to_sql-2.ensures, c.as_str.ensures.value, c.get.ensures.value));
}
