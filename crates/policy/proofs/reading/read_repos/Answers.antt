use Rattle.policy.proofs.Prelude.{◌≡◌, ◌∙◌, sym, false, ◌<◌, length, arith, view, repo_text, is_among}
use Rattle.policy.specs.Repos.{names_of}
use Rattle.policy.proofs.Steps.{map-drop, repos_next}
use Rattle.policy.proofs.reading.read_repos.Goals as goal

pub loop-index-preserved : goal.loop-index-preserved
loop-index-preserved c =
    let inside : c.loop-index.index < length c.args.entries.now = omega arith in
    let here = map-drop view c.args.entries.now c.loop-index.index c.index-entries-index.result inside c.index-entries-index.is in
    let free : is_among (repo_text c.in_ok-repo.repo.name) (names_of c.loop-index.repos.items) ≡ false =
    rw (← c.deref.ensures.value, ← c.as_str.ensures.value) (sym c.is_taken.ensures ∙ c.if-is_taken.false) in
    rw c.in_ok-push.ensures.items (repos_next _ _ _ _ _ _ _ c.loop-index.invariant here c.in_ok-repo.ensures.0 c.in_ok-repo.ensures.1 free)
