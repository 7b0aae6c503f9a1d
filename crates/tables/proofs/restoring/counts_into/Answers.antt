use Rattle.tables.proofs.Prelude.{pos, refl, rules, w64, to_z-of_z, repo_text}
use Rattle.tables.specs.Statements.{add_counts, writing}
use Rattle.tables.proofs.restoring.counts_into.Goals as goal

pub returns-clause-does : goal.returns-clause-does
unfolding writing
returns-clause-does g c = record {
  within = c.change.ensures.within;
  ok = c.change.ensures.ok (add_counts (repo_text c.args.repo.now) (pos c.args.made) c.args.used) refl
      (rw (c.params-to_sql.ensures, c.params-to_sql-2.ensures, c.params-to_sql-3.ensures, c.as_str.ensures.value, to_z-of_z w64 c.args.used (search rules)));
}
