use Rattle.compared.proofs.Comparisons.{compares_like, compares_then}
use Rattle.compared.proofs.Whole.{AllSix, SameRepos, SameLocks, SameTokens, SameRetired, SameUploads, from_same, passed, same_holds, to_same}
use Rattle.compared.specs.Same.{AreSame, HaveSameChunks}
use Rattle.compared.proofs.comparing.is_same.Goals as goal

pub returns-clause-same : goal.returns-clause-same
returns-clause-same g c =
    let one = passed g.A.State g.B.State _ _ _ _ _ SameRepos c.if-not-branch.false c.in_ok-have_same_repos.ensures in
    let two = passed g.A.State g.B.State _ _ _ _ _ SameLocks c.if-not-branch-2.false c.in_ok-have_same_locks.ensures in
    let three = passed g.A.State g.B.State _ _ _ _ _ SameTokens c.if-not-branch-3.false c.in_ok-have_same_tokens.ensures in
    let four = passed g.A.State g.B.State _ _ _ _ _ SameRetired c.if-not-branch-4.false c.in_ok-have_same_retired.ensures in
    let five = passed g.A.State g.B.State _ _ _ _ _ SameUploads c.if-not-branch-5.false c.in_ok-have_same_uploads.ensures in
    let six = compares_then g.A.State g.B.State _ _ _ _ _ _ _ SameUploads HaveSameChunks five c.have_same_chunks.ensures in
    let more = compares_then g.A.State g.B.State _ _ _ _ _ _ _ SameRetired _ four six in
    let some = compares_then g.A.State g.B.State _ _ _ _ _ _ _ SameTokens _ three more in
    let most = compares_then g.A.State g.B.State _ _ _ _ _ _ _ SameLocks _ two some in
    let all = compares_then g.A.State g.B.State _ _ _ _ _ _ _ SameRepos _ one most in
    compares_like g.A.State g.B.State _ _ _ _ _ AllSix AreSame to_same from_same all

pub returns-clause-holds : goal.returns-clause-holds
returns-clause-holds g c = same_holds g.A.State g.B.State _ _ _ _ _ (returns-clause-same g c)
