use Rattle.desk.proofs.Prelude.{repo_view}
use Rattle.desk.proofs.Reading.{as_reads}
use Rattle.desk.proofs.batching.batch_objects.Goals as goal

pub returns : goal.returns
returns g c = as_reads g.S.State (repo_view c.args.repo.now) _ c.judge_all.ensures.reads c.judge_all.ensures.each
