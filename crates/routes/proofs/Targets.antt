-- The route of a target, from its resource and its parts.
use Rattle.routes.proofs.Prelude.{◌≡◌, ℕ, ◌-◌, Bool, true, false, ◌==◌, List, [], ◌∷◌, ◌++◌, take, drop, length, find, map, Option, Some, None, option_map, Result, Ok, Err, refl, sym, ap, ◌∙◌, cond, codes, slice_get, list_all, ends_with, parts, Route, RouteRow, under_lfs, parameter_in, row_fits, repo_text, route_of_parts, path_of, route_at, is_some_text, fitting, row_at, Resource, row_of, resources, whole_row, table, resource_at}
use Rattle.std.specs.Str.{IsUtf8}
use Rattle.std.proofs.lemmas.Str.{is_utf8-from_IsUtf8}
use Rattle.names.specs.declared.rules.Rule.{Rule}
use Rattle.names.specs.declared.rules.Rule.TheVariants.{H6}
use Rattle.model.specs.Reading.{◌>>=◌, check, ok_or}

abbrev pub Routed : Type 0
Routed = Result Route Rule

abbrev routed : List ℕ → List ℕ → RouteRow → Routed
routed repo part row = Ok (record { repo = repo; parameter = part; row = row })

-- ---- rows and resources

-- the first row that fits is that of the first resource that fits, for any list of resources
find-row : (rows : List Resource) (owner part : List ℕ) (rest : List (List ℕ))
    → find (row_fits rest) (map row_of rows) ≡ option_map row_of (fitting (map whole_row rows) (owner ∷ part ∷ rest))
find-row [] owner part rest = refl
find-row (resource ∷ rows) owner part rest =
    elim (row_fits rest (row_of resource)) as (λ v. cond v (Some (row_of resource)) (find (row_fits rest) (map row_of rows)) ≡ option_map row_of (cond v (Some resource) (fitting (map whole_row rows) (owner ∷ part ∷ rest)))) [
      | true ↦ refl
      | false ↦ find-row rows owner part rest
    ]

-- ---- the route

-- the parameter of a resource in the parts after the repository's two
abbrev parameter_of : Resource → List (List ℕ) → List ℕ
parameter_of resource rest = parameter_in (under_lfs (row_of resource).rest) rest

abbrev by_repo : List (List ℕ) → Option Resource → Option (List ℕ) → Routed
by_repo rest None repo = Err H6
by_repo rest (Some resource) None = Err H6
by_repo rest (Some resource) (Some repo) = routed repo (parameter_of resource rest) (row_of resource)

abbrev pub by_resource : List (List ℕ) → Option Resource → Option (List ℕ) → Option (List ℕ) → Routed
by_resource rest o None part = Err H6
by_resource rest o (Some owner) None = Err H6
by_resource rest o (Some owner) (Some part) = by_repo rest o (repo_text owner part)

by_checks : (all : Bool) (o : Option Resource) (repo : Option (List ℕ)) (rest : List (List ℕ))
    → (check all H6 >>= λ whole. ok_or repo H6 >>= λ text. ok_or (option_map row_of o) H6 >>= λ row. routed text (parameter_in (under_lfs row.rest) rest) row)
    ≡ by_repo rest (cond all o None) repo
by_checks false o repo rest = refl
by_checks true None None rest = refl
by_checks true (Some resource) None rest = refl
by_checks true None (Some repo) rest = refl
by_checks true (Some resource) (Some repo) rest = refl

of_parts : (ps : List (List ℕ)) → route_of_parts ps ≡ by_resource (drop 3 ps) (row_at table ps) (slice_get ps 1) (slice_get ps 2)
of_parts [] = refl
of_parts ((b ∷ front) ∷ []) = refl
of_parts ((b ∷ front) ∷ owner ∷ []) = refl
of_parts ((b ∷ front) ∷ owner ∷ part ∷ rest) = refl
of_parts ([] ∷ []) = refl
of_parts ([] ∷ owner ∷ []) = refl
of_parts ([] ∷ owner ∷ part ∷ rest) =
    let all = list_all is_some_text (owner ∷ part ∷ rest) in
    ap (λ o. check all H6 >>= λ whole. ok_or (repo_text owner part) H6 >>= λ text. ok_or o H6 >>= λ row. routed text (parameter_in (under_lfs row.rest) rest) row) (find-row resources owner part rest)
    ∙ by_checks all (fitting table (owner ∷ part ∷ rest)) (repo_text owner part) rest

pub by_parts : (target path : List ℕ) (resource : Option Resource) (o p : Option (List ℕ)) → IsUtf8 target → path ≡ path_of target
    → resource ≡ resource_at path → o ≡ slice_get (parts path) 1 → p ≡ slice_get (parts path) 2 → route_at target ≡ by_resource (drop 3 (parts path)) resource o p
by_parts target path resource o p utf8 e f g h =
    ap (λ v. check v H6 >>= λ text. route_of_parts (parts (path_of target))) (is_utf8-from_IsUtf8 target utf8)
    ∙ ap (λ t. route_of_parts (parts t)) (sym e) ∙ of_parts (parts path)
    ∙ ap (λ x. by_resource (drop 3 (parts path)) x (slice_get (parts path) 1) (slice_get (parts path) 2)) (sym f)
    ∙ ap (λ x. by_resource (drop 3 (parts path)) resource x (slice_get (parts path) 2)) (sym g) ∙ ap (λ x. by_resource (drop 3 (parts path)) resource o x) (sym h)

-- a path that fits no row has no route
pub no_resource : (rest : List (List ℕ)) (o p : Option (List ℕ)) → by_resource rest None o p ≡ Err H6
no_resource rest None p = refl
no_resource rest (Some owner) None = refl
no_resource rest (Some owner) (Some part) = refl

pub no_git : (rest : List (List ℕ)) (resource : Resource) (owner part : List ℕ) → ends_with (λ a b. a == b) part (codes ".git") ≡ false
    → by_resource rest (Some resource) (Some owner) (Some part) ≡ Err H6
no_git rest resource owner part e = ap (λ v. by_repo rest (Some resource) (cond v (Some (owner ++ 47 ∷ take (length part - 4) part)) None)) e

pub with_git : (rest : List (List ℕ)) (resource : Resource) (owner part name in_path : List ℕ) → ends_with (λ a b. a == b) part (codes ".git") ≡ true
    → name ≡ take (length part - 4) part → in_path ≡ parameter_of resource rest
    → by_resource rest (Some resource) (Some owner) (Some part) ≡ routed (owner ++ 47 ∷ name) in_path (row_of resource)
with_git rest resource owner part name in_path e f g =
    ap (λ v. by_repo rest (Some resource) (cond v (Some (owner ++ 47 ∷ take (length part - 4) part)) None)) e
    ∙ ap (λ n. by_repo rest (Some resource) (Some (owner ++ 47 ∷ n))) (sym f)
    ∙ ap (λ p. routed (owner ++ 47 ∷ name) p (row_of resource)) (sym g)
