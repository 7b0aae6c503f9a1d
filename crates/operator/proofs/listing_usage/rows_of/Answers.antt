use Rattle.operator.proofs.Prelude.{rules, ◌≡◌, ◌∙◌, ℕ, List, [], ◌∷◌, ◌++◌, ap, sym, subst, string_bytes, reads_then, ◌+◌, map, take}
use Rattle.std.specs.List.{AllZip}
use Rattle.std.proofs.lemmas.List.{map-append, take_all}
use Rattle.policy.specs.declared.repos.Repo.{Repo}
use Rattle.refinement.specs.Left.{Reads}
use Rattle.operator.specs.Usage.{IsLineOf, Uses}
use Rattle.operator.proofs.Counted.{lines_then, none_ok}
use Rattle.operator.proofs.listing_usage.rows_of.Goals as goal

pub returns-in_err-usage : goal.returns-in_err-usage
returns-in_err-usage g c =
    reads_then g.S.State _ _ _ _ _ _ (λ world laws before failed. none_ok _ _ c.from_residual.result c.from_residual.ensures.1) c.loop-repo.invariant c.usage_of.ensures

pub returns-in_err-cells_of : goal.returns-in_err-cells_of
returns-in_err-cells_of g c =
    reads_then g.S.State _ _ _ _ _ _ (λ world laws before usage. none_ok _ _ c.from_residual-in_err-cells_of.result c.from_residual-in_err-cells_of.ensures.1) c.loop-repo.invariant c.usage_of.ensures

pub returns-in_err-map_err : goal.returns-in_err-map_err
returns-in_err-map_err g c =
    reads_then g.S.State _ _ _ _ _ _ (λ world laws before usage. none_ok _ _ c.from_residual-in_err-map_err.result c.from_residual-in_err-map_err.ensures.1) c.loop-repo.invariant c.usage_of.ensures

pub loop-repo-preserved : goal.loop-repo-preserved
loop-repo-preserved g c =
    let old = c.loop-repo.store in
    let new = c.usage_of.new.store in
    let now = c.args.now in
    let repos = c.args.repos.now in
    let repo = c.repo-item.result in
    let rows = c.loop-repo.rows.items in
    let cells = c.in_ok-cells_of.field-0 in
    let usage = c.in_ok-usage.usage in
    let pushed : c.push.new.self.items ≡ rows ++ cells ∷ [] = search rules in
    let uses = subst (λ (name : List ℕ). Reads g.S.State old new (λ world. Uses g.S.State world new name now usage)) c.name.ensures c.in_ok-usage.ensures in
    subst (λ (lines : List (List (List ℕ))). Reads g.S.State c.args.store.now new (λ world. AllZip (IsLineOf g.S.State world new now) (take (c.loop-repo.repo-index + 1) repos) lines))
    (sym (ap (map (map string_bytes)) pushed ∙ map-append (map string_bytes) rows (cells ∷ [])))
    (lines_then g.S.State c.args.store.now old new now repos c.loop-repo.repo-index repo (map (map string_bytes) rows) usage (map string_bytes cells)
    c.loop-repo-test.true c.repo-item.is c.loop-repo.invariant uses c.in_ok-cells_of.ensures)

pub returns : goal.returns
returns g c =
    subst (λ (repos : List Repo). Reads g.S.State c.args.store.now c.loop-repo.store (λ world. AllZip (IsLineOf g.S.State world c.loop-repo.store c.args.now) repos (map (map string_bytes) c.loop-repo.rows.items)))
    (take_all c.loop-repo.repo-index c.args.repos.now c.loop-repo-test.false) c.loop-repo.invariant
