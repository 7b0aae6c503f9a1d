-- Tables without the staged uploads whose chunks are in rows represent the world that they represent without these chunks.
use Rattle.std.proofs.Common.{◌≡◌, ℕ, ℤ, Bool, true, false, not, ◌&&◌, List, [], ◌∷◌, find, Option, Some, None, is_some, refl, sym, ap, subst, ◌∙◌}
use Rattle.std.specs.Ordering.{int_eq}
use Rattle.sqlite_keyed.specs.Lists.{delete_where}
use Rattle.sqlite_keyed.proofs.KeyedLemmas.{same_int}
use Rattle.sqlite_keyed.proofs.ListLemmas.{all_of}
use Rattle.sqlite_trees.proofs.ListLemmas.{filter_same}
use Rattle.model.specs.World.{World}
use Rattle.model.proofs.Lists.{find_filter}
use Rattle.tables.specs.Rows.{Chunk, Upload, Tables}
use Rattle.tables.specs.Staging.{staged_with, without_found, without_staged, without_upload}
use Rattle.tables.specs.Statements.{is_of, is_staged, is_staged_with, is_upload, without_chunks, without_row}
use Rattle.store.specs.Normal.{is_of_staged, settled}
use Rattle.placed.specs.Opening.{chunked_ids, cleared, without_all}
use Rattle.placed.specs.View.{view}
use Rattle.placed.proofs.Cleared.{cleared_settled, view_all}
use Rattle.refinement.specs.Representation.{Represents}
use Rattle.refinement.proofs.Withdrawn.{each_left, filters_meet, not_is, staged_withdrawn}

-- of another upload the same is found after a removal
same_staged : (id k : ℤ) → int_eq k id ≡ false → (us : List Upload)
    → find (is_staged_with k) (delete_where (is_upload id) us) ≡ find (is_staged_with k) us
same_staged id k apart us =
    find_filter (is_staged_with k) (λ u. not (is_upload id u)) us
    ∙ (λ i. find (λ u. same u (is_upload k u) refl i) us)
  where
    none : (b : Bool) → (b && false) ≡ false
    none true = refl
    none false = refl

    same : (u : Upload) (own : Bool) → is_upload k u ≡ own
        → (not (is_upload id u) && is_staged_with k u) ≡ is_staged_with k u
    same u true is =
        ap (λ b. not b && is_staged_with k u) (ap (λ n. int_eq n id) (same_int u.id k is) ∙ apart)
    same u false is =
        ap (λ b. not (is_upload id u) && (b && is_staged u)) is
        ∙ none (not (is_upload id u))
        ∙ ap (λ b. b && is_staged u) (sym is)

settled_step : (id : ℤ) (t : Tables) → settled (without_staged id t) ≡ without_staged id (settled t)
unfolding without_staged without_upload without_row without_chunks
settled_step id t = at (staged_with id t)
  where
    at : (o : Option Upload) → settled (without_found o t) ≡ without_found o (settled t)
    at None = refl
    at (Some u) =
        let left = delete_where (is_upload u.id) t.uploads in
        ap (λ (cs : List Chunk). record t { uploads = left; chunks = cs })
        (filter_same (λ c. not (is_of_staged left c)) (λ c. not (is_of_staged t.uploads c)) (delete_where (is_of u.id) t.chunks)
        (each_left (λ c. not (is_of_staged left c) ≡ not (is_of_staged t.uploads c)) (λ c. not (is_of u.id c)) t.chunks
        (all_of (λ (c : Chunk). not (is_of u.id c) ≡ true → not (is_of_staged left c) ≡ not (is_of_staged t.uploads c))
        (λ c stays. ap (λ (o : Option Upload). not (is_some o)) (same_staged u.id c.upload (not_is (is_of u.id c) stays) t.uploads)) t.chunks))
        ∙ filters_meet (λ c. not (is_of_staged t.uploads c)) (λ c. not (is_of u.id c)) t.chunks)

settled_all : (ids : List ℤ) (t : Tables) → settled (without_all ids t) ≡ without_all ids (settled t)
settled_all [] t = refl
settled_all (id ∷ ids) t = settled_all ids (without_staged id t) ∙ ap (without_all ids) (settled_step id t)

withdrawn_all : (ids : List ℤ) (t : Tables) (world : World) → Represents t world → Represents (without_all ids t) world
withdrawn_all [] t world r = r
withdrawn_all (id ∷ ids) t world r = withdrawn_all ids (without_staged id t) world (staged_withdrawn t world id r)

pub cleared_represented : (file : List ℕ) (t : Tables) (world : World) → Represents (settled (view file [] t)) world
    → Represents (view file [] (cleared t)) world
cleared_represented file t world r =
    let ids = chunked_ids t in
    subst (λ (u : Tables). Represents u world)
    (sym (settled_all ids (view file [] t)) ∙ ap settled (sym (view_all file ids t)) ∙ cleared_settled file t)
    (withdrawn_all ids (settled (view file [] t)) world r)
