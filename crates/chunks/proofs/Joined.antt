-- A part of the content of an upload is one of the bytes of its chunks, joined.
use Rattle.std.proofs.Common.{◌≡◌, ℕ, suc, ℤ, Bool, true, false, List, [], ◌∷◌, map, filter, length, take, drop, cond, is_gt, refl, sym, ap, ap₂, ◌∙◌, Option, None, Some, IfSome}
use Rattle.std.specs.Global.{Vec}
use Rattle.std.specs.List.{AllByRecursion, concat}
use Rattle.std.specs.Ordering.{int_cmp, int_eq, ordering_then}
use Rattle.std.proofs.lemmas.Cmp.{int_cmp_total, tied_itself}
use Rattle.sqlite_keyed.proofs.KeyedLemmas.{same_int}
use Rattle.sqlite_keyed.proofs.SortLemmas.{sort_by-map}
use Rattle.sqlite_keyed.specs.Lists.{insert_sorted, sort_by}
use Rattle.sqlite_trees.proofs.ListLemmas.{filter-map}
use Rattle.tables.specs.Rows.{Chunk, Tables}
use Rattle.tables.specs.Staging.{asked_chunk}
use Rattle.tables.specs.Statements.{is_of}
use Rattle.store.specs.declared.state.State.{Ghosts}
use Rattle.store.specs.Content.{IsPortion, chunks_with}
use Rattle.store.specs.Normal.{chunk_cmp, normal, placeless}
use Rattle.store.specs.Shown.{HasTables, IsHonest, IsOpen, shown}
use Rattle.store.proofs.Sorted.{filter-sort}
use Rattle.store.proofs.Steps.{chunk_total}
use Rattle.refinement.specs.Objects.{HasPieces, number_cmp, piece_rows}
use Rattle.refinement.specs.Staging.{Stores}
use Rattle.chunks.specs.Pouring.{OfBytes}

-- ---- chunks of one upload

abbrev IsOwn : ℤ → Chunk → Type 0
IsOwn id c = c.upload ≡ id

-- they are in the order of their numbers
same_order : (id : ℤ) (a b : Chunk) → IsOwn id a → IsOwn id b → chunk_cmp a b ≡ number_cmp a b
same_order id a b one two =
    ap₂ (λ x y. ordering_then (int_cmp x y) (int_cmp a.n b.n)) one two
    ∙ ap (λ o. ordering_then o (int_cmp a.n b.n)) (tied_itself int_cmp_total id)

own_inserted : (id : ℤ) (c : Chunk) (cs : List Chunk) → IsOwn id c → AllByRecursion (IsOwn id) cs
    → AllByRecursion (IsOwn id) (insert_sorted number_cmp c cs)
own_inserted id c [] own all = (own, tt)
own_inserted id c (x ∷ cs) own all = at (is_gt (number_cmp c x)) (own_inserted id c cs own all.1)
  where
    at : (b : Bool) → AllByRecursion (IsOwn id) (insert_sorted number_cmp c cs)
        → AllByRecursion (IsOwn id) (cond b (x ∷ insert_sorted number_cmp c cs) (c ∷ x ∷ cs))
    at true rest = (all.0, rest)
    at false rest = (own, all)

own_sorted : (id : ℤ) (cs : List Chunk) → AllByRecursion (IsOwn id) cs → AllByRecursion (IsOwn id) (sort_by number_cmp cs)
own_sorted id [] all = tt
own_sorted id (c ∷ cs) all = own_inserted id c (sort_by number_cmp cs) all.0 (own_sorted id cs all.1)

same_inserted : (id : ℤ) (c : Chunk) (cs : List Chunk) → IsOwn id c → AllByRecursion (IsOwn id) cs
    → insert_sorted chunk_cmp c cs ≡ insert_sorted number_cmp c cs
same_inserted id c [] own all = refl
same_inserted id c (x ∷ cs) own all =
    ap (λ o. cond (is_gt o) (x ∷ insert_sorted chunk_cmp c cs) (c ∷ x ∷ cs)) (same_order id c x own all.0)
    ∙ ap (λ l. cond (is_gt (number_cmp c x)) (x ∷ l) (c ∷ x ∷ cs)) (same_inserted id c cs own all.1)

same_sorted : (id : ℤ) (cs : List Chunk) → AllByRecursion (IsOwn id) cs → sort_by chunk_cmp cs ≡ sort_by number_cmp cs
same_sorted id [] all = refl
same_sorted id (c ∷ cs) all =
    ap (insert_sorted chunk_cmp c) (same_sorted id cs all.1)
    ∙ same_inserted id c (sort_by number_cmp cs) all.0 (own_sorted id cs all.1)

-- what a filter by upload keeps is of the upload
kept_own : (id : ℤ) (cs : List Chunk) → AllByRecursion (IsOwn id) (filter (is_of id) cs)
kept_own id [] = tt
kept_own id (c ∷ cs) = at (is_of id c) refl (kept_own id cs)
  where
    at : (b : Bool) → is_of id c ≡ b → AllByRecursion (IsOwn id) (filter (is_of id) cs)
        → AllByRecursion (IsOwn id) (cond b (c ∷ filter (is_of id) cs) (filter (is_of id) cs))
    at true is rest = (same_int c.upload id is, rest)
    at false is rest = rest

-- ---- in tables whose chunks are in order

same_rows : (id : ℤ) (n : ℕ) (each : List (List ℕ)) → piece_rows id n each ≡ chunks_with id n each
same_rows id n [] = refl
same_rows id n (bytes ∷ each) = ap (λ (l : List Chunk). asked_chunk id n bytes ∷ l) (same_rows id (suc n) each)

in_order : (id : ℤ) (t : Tables) → normal t ≡ t
    → filter (is_of id) t.chunks ≡ map placeless (sort_by number_cmp (filter (is_of id) t.chunks))
in_order id t is =
    let own = filter (is_of id) t.chunks in
    sym (ap (λ (u : Tables). filter (is_of id) u.chunks) is)
    ∙ filter-sort chunk_cmp chunk_total (is_of id) (map placeless t.chunks)
    ∙ ap (sort_by chunk_cmp) (filter-map (is_of id) placeless t.chunks)
    ∙ sort_by-map chunk_cmp placeless own
    ∙ ap (map placeless) (same_sorted id own (kept_own id t.chunks))

numbered : (id : ℤ) (t : Tables) (each : List (List ℕ)) → normal t ≡ t → HasPieces id each t.chunks
    → filter (is_of id) t.chunks ≡ chunks_with id 0 each
numbered id t each is has = in_order id t is ∙ has ∙ same_rows id 0 each

-- ---- the call

module _ {S : Type 0} (g : Ghosts S) (a b : S) (id : ℤ) (at : ℕ) (bytes : List ℕ) where
  pub portion_of : (IsHonest g b → HasTables g a → IsOpen g a × IsPortion id at bytes (shown g a))
      → (IsHonest g b → IsHonest g a)
      → OfBytes g a b id (λ content. bytes ≡ take (length bytes) (drop at content))
  portion_of says was k h content stores =
      let it = says k h in
      let stored = stores (was k) it.0 in
      it.1 stored.0 (numbered id (shown g a) stored.0 (h.ordered (was k) it.0) stored.1)
      ∙ ap (λ l. take (length bytes) (drop at l)) stored.2

-- what was found, if anything
pub portion_found : {S : Type 0} (g : Ghosts S) (a b : S) (id : ℤ) (at : ℕ) (found : Option (Vec ℕ))
    → (IsHonest g b → HasTables g a → IfSome found (λ (v : Vec ℕ). IsOpen g a × IsPortion id at v.items (shown g a)))
    → (IsHonest g b → IsHonest g a)
    → IfSome found (λ (v : Vec ℕ). OfBytes g a b id (λ content. v.items ≡ take (length v.items) (drop at content)))
portion_found g a b id at None says was = tt
portion_found g a b id at (Some v) says was = portion_of g a b id at v.items says was
