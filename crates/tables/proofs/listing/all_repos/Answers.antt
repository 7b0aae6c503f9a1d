use Rattle.tables.proofs.Prelude.{rules, one_more}
use Rattle.tables.specs.Statements.{show_repo}
use Rattle.tables.specs.Listing.{repo_fields, read_repo}
use Rattle.tables.proofs.listing.all_repos.Goals as goal

pub loop-row-preserved : goal.loop-row-preserved
loop-row-preserved c repos all =
    one_more show_repo repo_fields read_repo c.args.rows.now repos c.loop-row.row-index c.row-item.result c.in_ok-repo.repo c.loop-row.found.items c.push.new.self.items all c.loop-row-test.true c.row-item.is c.in_ok-repo.ensures
    (c.loop-row.invariant repos all) (search rules)
