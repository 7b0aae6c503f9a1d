-- Chunks arranged by upload and number: filtered, with more chunks, in another order, and arranged again.
use Rattle.placed.proofs.Prelude.{◌≡◌, ◌≢◌, inl, inr, Bool, List, [], ◌∷◌, ◌++◌, map, filter, sym, ap, ◌∙◌, refl, map-append, AllByRecursion, int_cmp, int_cmp_total, filter-map, insert_sorted, sort_by, all_weaker, Chunk, placeless, chunk_cmp, arranged, filter-sort, chunk_total}
use Rattle.std.proofs.Common.{Ordering, Less, Equal, Greater}
use Rattle.std.specs.Ordering.{ordering_reverse}
use Rattle.std.proofs.lemmas.Cmp.{int_ranked}
use Rattle.sqlite_keyed.proofs.ListLemmas.{map-map, all_map}
use Rattle.sqlite_keyed.proofs.SortLemmas.{sort_by-map}
use Rattle.store.proofs.Sorted.{sort-sorted, sort-swap, Differ}

pub arranged-filter : (p : Chunk → Bool) → ◌≡◌ {A = Chunk → Bool} (λ c. p (placeless c)) p → (cs : List Chunk)
    → arranged (filter p cs) ≡ filter p (arranged cs)
arranged-filter p same cs =
    ap (λ (q : Chunk → Bool). sort_by chunk_cmp (map placeless (filter q cs))) (sym same)
    ∙ ap (sort_by chunk_cmp) (sym (filter-map p placeless cs))
    ∙ sym (filter-sort chunk_cmp chunk_total p (map placeless cs))

pub arranged-front : (ws ls ks : List Chunk) → arranged ls ≡ arranged ks → arranged (ws ++ ls) ≡ arranged (ws ++ ks)
arranged-front [] ls ks same = same
arranged-front (w ∷ ws) ls ks same = ap (insert_sorted chunk_cmp (placeless w)) (arranged-front ws ls ks same)

-- chunks of two uploads come at two places in the order
differ : (x y : Chunk) → x.upload ≢ y.upload → Differ chunk_cmp chunk_total (placeless x) (placeless y)
differ x y apart = at (int_cmp x.upload y.upload) refl
  where
    at : (o : Ordering) → int_cmp x.upload y.upload ≡ o → Differ chunk_cmp chunk_total (placeless x) (placeless y)
    at Less e = inr (rw (int_cmp_total.antisymm y.upload x.upload ∙ ap ordering_reverse e) refl)
    at Equal e = absurd (apart (int_ranked x.upload y.upload Equal (sym e)))
    at Greater e = inl (rw e refl)

-- chunks of other uploads than these may be listed before or after these
pub arranged-swap : (xs ys zs : List Chunk)
    → AllByRecursion (λ (x : Chunk). AllByRecursion (λ (y : Chunk). x.upload ≢ y.upload) ys) xs
    → arranged (xs ++ (ys ++ zs)) ≡ arranged (ys ++ (xs ++ zs))
arranged-swap xs ys zs apart =
    ap (sort_by chunk_cmp) (map_three xs ys zs)
    ∙ sort-swap chunk_cmp chunk_total (map placeless xs) (map placeless ys) (map placeless zs)
    (all_map _ placeless xs (all_weaker _ _ each xs apart))
    ∙ ap (sort_by chunk_cmp) (sym (map_three ys xs zs))
  where
    map_three : (ks ls ms : List Chunk)
        → map placeless (ks ++ (ls ++ ms)) ≡ map placeless ks ++ (map placeless ls ++ map placeless ms)
    map_three ks ls ms =
        map-append placeless ks (ls ++ ms) ∙ ap (λ l. map placeless ks ++ l) (map-append placeless ls ms)

    each : (x : Chunk) → AllByRecursion (λ (y : Chunk). x.upload ≢ y.upload) ys
        → AllByRecursion (Differ chunk_cmp chunk_total (placeless x)) (map placeless ys)
    each x all = all_map (Differ chunk_cmp chunk_total (placeless x)) placeless ys (all_weaker _ _ (differ x) ys all)

arranged-placeless : (cs : List Chunk) → map placeless (arranged cs) ≡ arranged cs
arranged-placeless cs =
    sym (sort_by-map chunk_cmp placeless (map placeless cs)) ∙ ap (sort_by chunk_cmp) (map-map placeless placeless cs)

-- chunks that were arranged before more were added
pub arranged-again : (cs ds : List Chunk) → arranged (arranged cs ++ ds) ≡ arranged (cs ++ ds)
arranged-again cs ds =
    ap (sort_by chunk_cmp) (map-append placeless (arranged cs) ds ∙ ap (λ l. l ++ map placeless ds) (arranged-placeless cs))
    ∙ sort-sorted chunk_cmp chunk_total (map placeless cs) (map placeless ds)
    ∙ ap (sort_by chunk_cmp) (sym (map-append placeless cs ds))

-- one more chunk, whose rowid does not matter
pub arranged-push : (cs : List Chunk) (c d : Chunk) → placeless c ≡ placeless d
    → arranged (cs ++ c ∷ []) ≡ arranged (arranged cs ++ d ∷ [])
arranged-push cs c d same =
    arranged-front cs (c ∷ []) (d ∷ []) (ap (λ k. k ∷ []) same) ∙ sym (arranged-again cs (d ∷ []))
