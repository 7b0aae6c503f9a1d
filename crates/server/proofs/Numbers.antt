-- The numbers of a status, repository by repository.
use Rattle.std.proofs.Common.{◌≡◌, ◌∙◌, ◌+◌, ◌<◌, ℕ, Err, IfOk, IsErrAnd, List, Ok, Result, [], ◌∷◌, ◌++◌, ap, get_or, length, map, subst, sym, take}
use Rattle.std.specs.List.{AllZip}
use Rattle.std.proofs.lemmas.List.{map-append, take_more}
use Rattle.std.proofs.lemmas.Slice.Zip.{all_zipped_more}
use Rattle.policy.specs.Values.{repo_view}
use Rattle.policy.specs.declared.repos.Repo.{Repo}
use Rattle.model.specs.Policy as model
use Rattle.model.specs.World.{World}
use Rattle.metrics.specs.Stored.{IsStored}
use Rattle.metrics.specs.declared.status.Stored.{Stored}
use Rattle.server.specs.Numbers.{AllStored}

-- one more repository
pub stored_more : (world : World) (repos : List Repo) (i : ℕ) (repo : Repo) (all : List Stored) (stored : Stored) → i < length repos → repo ≡ get_or repos i repo
    → AllStored world (map repo_view (take i repos)) all → IsStored world (repo_view repo).name stored → AllStored world (map repo_view (take (i + 1) repos)) (all ++ stored ∷ [])
stored_more world repos i repo all stored within is before here =
    let taken : take (i + 1) repos ≡ take i repos ++ repo ∷ [] = take_more repos i repo within ∙ ap (λ (r : Repo). take i repos ++ r ∷ []) (sym is) in
    let viewed : map repo_view (take (i + 1) repos) ≡ map repo_view (take i repos) ++ repo_view repo ∷ [] = ap (map repo_view) taken ∙ map-append repo_view (take i repos) (repo ∷ []) in
    subst (λ (rs : List model.Repo). AllStored world rs (all ++ stored ∷ [])) (sym viewed)
    (all_zipped_more (λ (r : model.Repo) s. IsStored world r.name s) (map repo_view (take i repos)) all (repo_view repo) stored before here)

-- nothing is claimed of an error
pub none_ok : {T E : Type 0} (P : T → Type 0) (Q : E → Type 0) (r : Result T E) → IsErrAnd r Q → IfOk r P
none_ok P Q (Ok x) is = absurd is
none_ok P Q (Err e) is = tt
