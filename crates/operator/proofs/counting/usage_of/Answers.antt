use Rattle.operator.proofs.Prelude.{World, ◌≡◌, length, reads_then, repo_text}
use Rattle.model.specs.World.{total}
use Rattle.model.specs.RepoState.{locks_of, objects_of}
use Rattle.operator.specs.Tokens.{valid_in}
use Rattle.operator.proofs.Counted.{none_ok}
use Rattle.operator.proofs.counting.usage_of.Goals as goal

pub returns-in_err-bytes : goal.returns-in_err-bytes
returns-in_err-bytes g c =
    reads_then g.S.State _ _ _ _ _ _ (λ world laws before failed. none_ok _ _ c.from_residual-in_err-bytes.result c.from_residual-in_err-bytes.ensures.1) c.in_ok-objects.ensures c.in_err-bytes.ensures

pub returns-in_err-locks : goal.returns-in_err-locks
returns-in_err-locks g c =
    reads_then g.S.State _ _ _ _ _ _ (λ world laws before failed. none_ok _ _ c.from_residual-in_err-locks.result c.from_residual-in_err-locks.ensures.1)
    (reads_then g.S.State _ _ _ _ _ _ (λ world laws objects bytes. bytes) c.in_ok-objects.ensures c.in_ok-bytes.ensures) c.in_err-locks.ensures

pub returns-in_err-tokens : goal.returns-in_err-tokens
returns-in_err-tokens g c =
    reads_then g.S.State _ _ _ _ _ _ (λ world laws before failed. none_ok _ _ c.from_residual-in_err-tokens.result c.from_residual-in_err-tokens.ensures.1)
    (reads_then g.S.State _ _ _ _ _ _ (λ world laws bytes locks. locks)
    (reads_then g.S.State _ _ _ _ _ _ (λ world laws objects bytes. bytes) c.in_ok-objects.ensures c.in_ok-bytes.ensures) c.in_ok-locks.ensures) c.in_err-tokens.ensures

pub returns-in_err-staged : goal.returns-in_err-staged
returns-in_err-staged g c =
    reads_then g.S.State _ _ _ _ _ _ (λ world laws before failed. none_ok _ _ c.from_residual-in_err-staged.result c.from_residual-in_err-staged.ensures.1)
    (reads_then g.S.State _ _ _ _ _ _ (λ world laws locks tokens. tokens)
    (reads_then g.S.State _ _ _ _ _ _ (λ world laws bytes locks. locks)
    (reads_then g.S.State _ _ _ _ _ _ (λ world laws objects bytes. bytes) c.in_ok-objects.ensures c.in_ok-bytes.ensures) c.in_ok-locks.ensures) c.in_ok-tokens.ensures) c.in_err-staged.ensures

pub returns : goal.returns
returns g c =
    let repo = repo_text c.args.repo.now in
    let objects : World → Type 0 = λ world. c.in_ok-objects.objects ≡ length (objects_of repo world) in
    let bytes : World → Type 0 = λ world. c.in_ok-bytes.bytes ≡ total repo world in
    let locks : World → Type 0 = λ world. c.in_ok-locks.locks ≡ length (locks_of repo world) in
    let tokens : World → Type 0 = λ world. c.in_ok-tokens.tokens ≡ length (valid_in repo c.args.now world) in
    reads_then g.S.State _ _ _ (λ world. ((objects world × bytes world) × locks world) × tokens world) _ _
    (λ world laws seen staged. record { objects = seen.0.0.0; bytes = seen.0.0.1; staged = staged; locks = seen.0.1; tokens = seen.1 })
    (reads_then g.S.State _ _ _ (λ world. (objects world × bytes world) × locks world) tokens _ (λ world laws seen count. (seen, count))
    (reads_then g.S.State _ _ _ (λ world. objects world × bytes world) locks _ (λ world laws seen count. (seen, count))
    (reads_then g.S.State _ _ _ objects bytes _ (λ world laws seen count. (seen, count)) c.in_ok-objects.ensures c.in_ok-bytes.ensures) c.in_ok-locks.ensures) c.in_ok-tokens.ensures) c.in_ok-staged.ensures
