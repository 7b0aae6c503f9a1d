-- Staged uploads that are removed one after the other.
use Rattle.refinement.proofs.Prelude.{◌≡◌, ◌∙◌, inl, ℤ, ◌<ℤ◌, true, not, List, [], ◌∷◌, map, filter, cond, Some, refl, sym, ap, subst, AllByRecursion, IsAscending, IsKeyedBy, all_weaker, ascending-filter, filter_all, In, each_passes, in_before_filter, Tables, is_upload, is_staged, staged_with}
use Rattle.tables.specs.Rows as row
use Rattle.tables.specs.Statements.{without_row, without_chunks}
use Rattle.tables.specs.Staging.{without_upload, without_found, without_staged}
use Rattle.refinement.proofs.Completing.{found_staged}
use Rattle.refinement.proofs.Pieces.{numbers_meet, own_number}
use Rattle.refinement.proofs.Uploads.{apart_below, found_itself}
use Rattle.refinement.proofs.Withdrawn.{filters_meet}

-- a removal of the first staged upload leaves the others
first_removed : (t : Tables) (u : row.Upload) (rest : List row.Upload) → IsKeyedBy (λ (v : row.Upload). v.id) t.uploads → filter is_staged t.uploads ≡ u ∷ rest
    → filter is_staged (without_staged u.id t).uploads ≡ rest
unfolding without_staged without_upload without_row without_chunks
first_removed t u rest up e =
    let staged : is_staged u ≡ true = (subst (AllByRecursion (λ v. is_staged v ≡ true)) e (each_passes is_staged t.uploads)).0 in
    let inside : In t.uploads u = in_before_filter is_staged t.uploads u (subst (λ (us : List row.Upload). In us u) (sym e) (inl refl)) in
    let found : staged_with u.id t ≡ Some u = found_staged t.uploads u.id u (found_itself t.uploads u up inside) staged in
    let above : AllByRecursion (λ (v : row.Upload). u.id <ℤ v.id) rest = (subst (IsAscending (λ (a b : row.Upload). a.id <ℤ b.id)) e (ascending-filter (λ (a b : row.Upload). a.id <ℤ b.id) is_staged t.uploads up)).0 in
    ap (λ o. filter is_staged (without_found o t).uploads) found
    ∙ filters_meet is_staged (λ v. not (is_upload u.id v)) t.uploads
    ∙ ap (filter (λ v. not (is_upload u.id v))) e
    ∙ ap (λ b. cond (not b) (u ∷ filter (λ v. not (is_upload u.id v)) rest) (filter (λ v. not (is_upload u.id v)) rest)) (own_number u.id)
    ∙ filter_all (λ v. not (is_upload u.id v)) rest
    (all_weaker (λ (v : row.Upload). u.id <ℤ v.id) (λ v. not (is_upload u.id v) ≡ true) (λ v below. ap not (numbers_meet v.id u.id ∙ apart_below u.id v.id below)) rest above)

-- the ids of the staged uploads, without the first
pub first_gone : (t : Tables) (n : ℤ) (ns : List ℤ) → IsKeyedBy (λ (u : row.Upload). u.id) t.uploads → map (λ (u : row.Upload). u.id) (filter is_staged t.uploads) ≡ n ∷ ns
    → map (λ (u : row.Upload). u.id) (filter is_staged (without_staged n t).uploads) ≡ ns
first_gone t n ns up e = at (filter is_staged t.uploads) refl e
  where
    at : (us : List row.Upload) → filter is_staged t.uploads ≡ us → map (λ (u : row.Upload). u.id) us ≡ n ∷ ns
        → map (λ (u : row.Upload). u.id) (filter is_staged (without_staged n t).uploads) ≡ ns
    at [] is same = absurd (cc)
    at (u ∷ rest) is same =
        let own : u.id ≡ n = cc in
        let others : map (λ (v : row.Upload). v.id) rest ≡ ns = cc in
        ap (λ k. map (λ (v : row.Upload). v.id) (filter is_staged (without_staged k t).uploads)) (sym own) ∙ ap (map (λ (v : row.Upload). v.id)) (first_removed t u rest up is) ∙ others
