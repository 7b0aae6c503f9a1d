use Rattle.tables.proofs.Prelude.{refl, repo_text}
use Rattle.tables.specs.Statements.{add_retired, writing}
use Rattle.tables.proofs.retiring.name_into.Goals as goal

pub returns-clause-does : goal.returns-clause-does
unfolding writing
returns-clause-does g c = record {
  within = c.change.ensures.within;
  ok = c.change.ensures.ok (add_retired (repo_text c.args.repo.now) c.args.oid.now) refl (rw (c.params-to_sql.ensures, c.params-to_sql-2.ensures, c.as_str.ensures.value, c.text.ensures.value));
}
