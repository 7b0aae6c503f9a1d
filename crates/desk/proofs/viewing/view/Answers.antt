use Rattle.desk.proofs.Viewed.{same_view}
use mir.Syntax.{w128}
use mir.Val.{SFits}
use Rattle.std.proofs.lemmas.Int.{to_z-of_z}
use Rattle.desk.proofs.Prelude.{rules, ◌∙◌, ◌≡◌, [], map, filter, if◌then◌else◌, World, sees, locks_of, lock_seen, policy_view, repo_text, user_text}
use Rattle.model.specs.RepoState.{objects_of, retired_of}
use Rattle.model.specs.Views.{sees_objects, tokens_of}
use Rattle.desk.specs.Views.{own_seen, size_seen}
use Rattle.refinement.proofs.ReadOnly.{reads_then}
use Rattle.desk.proofs.Reading.{none_ok}
use Rattle.desk.proofs.viewing.view.Goals as goal

pub returns-in_err-objects : goal.returns-in_err-objects
returns-in_err-objects g c =
    reads_then g.S.State _ _ _ _ _ _ (λ world laws before failed. none_ok _ _ c.from_residual-in_err-objects.result c.from_residual-in_err-objects.ensures.1) c.in_ok-tokens.ensures c.in_err-objects.ensures

pub returns-in_err-retired : goal.returns-in_err-retired
returns-in_err-retired g c =
    reads_then g.S.State _ _ _ _ _ _ (λ world laws before failed. none_ok _ _ c.from_residual-in_err-retired.result c.from_residual-in_err-retired.ensures.1)
    (reads_then g.S.State _ _ _ _ _ _ (λ world laws tokens objects. objects) c.in_ok-tokens.ensures c.in_ok-objects.ensures) c.in_err-retired.ensures

pub returns-in_err-locks : goal.returns-in_err-locks
returns-in_err-locks g c =
    reads_then g.S.State _ _ _ _ _ _ (λ world laws before failed. none_ok _ _ c.from_residual-in_err-locks.result c.from_residual-in_err-locks.ensures.1)
    (reads_then g.S.State _ _ _ _ _ _ (λ world laws objects names. names)
    (reads_then g.S.State _ _ _ _ _ _ (λ world laws tokens objects. objects) c.in_ok-tokens.ensures c.in_ok-objects.ensures) c.in_ok-retired.ensures) c.in_err-locks.ensures

pub returns-in_err-made : goal.returns-in_err-made
returns-in_err-made g c =
    reads_then g.S.State _ _ _ _ _ _ (λ world laws before failed. none_ok _ _ c.from_residual-in_err-made.result c.from_residual-in_err-made.ensures.1)
    (reads_then g.S.State _ _ _ _ _ _ (λ world laws names locks. locks)
    (reads_then g.S.State _ _ _ _ _ _ (λ world laws objects names. names)
    (reads_then g.S.State _ _ _ _ _ _ (λ world laws tokens objects. objects) c.in_ok-tokens.ensures c.in_ok-objects.ensures) c.in_ok-retired.ensures) c.in_ok-locks.ensures) c.in_err-made.ensures

pub returns-in_err-room : goal.returns-in_err-room
returns-in_err-room g c =
    reads_then g.S.State _ _ _ _ _ _ (λ world laws before failed. none_ok _ _ c.from_residual-in_err-room.result c.from_residual-in_err-room.ensures.1)
    (reads_then g.S.State _ _ _ _ _ _ (λ world laws locks made. made)
    (reads_then g.S.State _ _ _ _ _ _ (λ world laws names locks. locks)
    (reads_then g.S.State _ _ _ _ _ _ (λ world laws objects names. names)
    (reads_then g.S.State _ _ _ _ _ _ (λ world laws tokens objects. objects) c.in_ok-tokens.ensures c.in_ok-objects.ensures) c.in_ok-retired.ensures) c.in_ok-locks.ensures) c.in_ok-made.ensures) c.in_err-room.ensures

pub returns : goal.returns
returns g c =
    let policy = policy_view c.args.policy.now in
    let user = user_text c.args.user.now in
    let repo = repo_text c.args.repo.now in
    let tokens : World → Type 0 = λ world. map own_seen c.in_ok-tokens.tokens.items ≡ tokens_of user repo world in
    let objects : World → Type 0 = λ world. map size_seen c.in_ok-objects.objects.items ≡ (if sees_objects policy user repo then objects_of repo world else []) in
    let retired : World → Type 0 = λ world. c.in_ok-retired.retired.items ≡ (if sees_objects policy user repo then retired_of repo world else []) in
    let locks : World → Type 0 = λ world. map (lock_seen repo) c.in_ok-locks.locks.items ≡ filter (sees policy user) (locks_of repo world) in
    let made : World → Type 0 = λ world. c.in_ok-made.made ≡ world.made repo in
    let fits : SFits w128 c.in_ok-room.room = search rules in
    reads_then g.S.State _ _ _ (λ world. (((tokens world × objects world) × retired world) × locks world) × made world) _ _
    (λ world laws before room. same_view user repo policy _ _ _ _ _ _ _ _ _ _ _ _ before.0.0.0.0 before.0.0.0.1 before.0.0.1 before.0.1 before.1 (to_z-of_z w128 c.in_ok-room.room fits ∙ room))
    (reads_then g.S.State _ _ _ _ _ _ (λ world laws seen count. (seen, count))
    (reads_then g.S.State _ _ _ _ _ _ (λ world laws seen rows. (seen, rows))
    (reads_then g.S.State _ _ _ _ _ _ (λ world laws seen names. (seen, names))
    (reads_then g.S.State _ _ _ _ _ _ (λ world laws own sizes. (own, sizes)) c.in_ok-tokens.ensures c.in_ok-objects.ensures) c.in_ok-retired.ensures) c.in_ok-locks.ensures) c.in_ok-made.ensures) c.in_ok-room.ensures
