use Rattle.desk.proofs.Prelude.{take, repo_view, batch_asked, ReadsRepo}
use Rattle.desk.proofs.Offering.{HasJudged}
use Rattle.desk.proofs.batching.judge_all.Given as goal

abbrev pub invariant-loop-object : goal.invariant-loop-object
invariant-loop-object g l =
    ReadsRepo g.R.RepoReader l.fn.reader l.reader (repo_view l.repo) (HasJudged (batch_asked l.asked) l.room l.offers.items (take l.object-index l.object-items))
