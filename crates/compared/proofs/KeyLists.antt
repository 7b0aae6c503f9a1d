-- Chunks in order: their keys, which rise, and the bytes of each, determine the list.
use Rattle.std.proofs.Common.{◌≡◌, ◌≢◌, ◌∙◌, ℕ, ℤ, pos, Bool, true, false, ◌&&◌, cond, List, [], ◌∷◌, map, filter, find, length, Option, Some, option_map, Ordering, Less, Equal, Greater, is_lt, is_gt, IsPermutation, IsSorted, refl, sym, ap, ap₂, subst, arith}
use Rattle.std.specs.List.{AllByRecursion}
use Rattle.std.specs.Cmp.{IsTotalOrder}
use Rattle.std.specs.Ordering.{int_cmp, ordering_then}
use Rattle.std.proofs.lemmas.Bool.{true≢false}
use Rattle.std.proofs.lemmas.Bool.Decides.{Decides-int_eq}
use Rattle.std.proofs.lemmas.Cmp.{int_cmp_total, int_ranked, on_total, then_total, tied_itself}
use Rattle.std.proofs.lemmas.List.Sorted.{IsPermutation-sym}
use Rattle.std.proofs.lemmas.Option.{same_Some}
use Rattle.sqlite_trees.specs.Tree.{IsAscending}
use Rattle.sqlite_keyed.proofs.ListLemmas.{all_weaker, all_map, ascending-map, ascending_from_map, ascending_weaker, ascending-filter, all-filter}
use Rattle.sqlite_keyed.proofs.ListLemmas.{all_of}
use Rattle.sqlite_keyed.proofs.SortLemmas.{sorted_unique}
use Rattle.refinement.proofs.Sorting.{NotAfter, each_sorted, is_sorted, sorted_rises}
use Rattle.model.proofs.Lists.{each_passes, find_weaker}
use Rattle.store.specs.Normal.{placeless, chunk_cmp, arranged}
use Rattle.store.proofs.Steps.{chunk_total}
use Rattle.tables.specs.Rows.{Chunk}
use Rattle.tables.specs.Statements.{is_chunk}
use Rattle.tables.specs.Listing.{KeyFields, key_fields}
use Rattle.compared.specs.Keys.{KeysRise, key_cmp}
use Rattle.compared.specs.Same.{HasOtherKey}
use Rattle.compared.proofs.Paired.{head_same, tail_same}

pub key_total : IsTotalOrder key_cmp
key_total = then_total (on_total (λ (k : KeyFields). k.upload) int_cmp_total) (on_total (λ (k : KeyFields). k.n) int_cmp_total)

-- ---- keys

-- the chunk has this key
abbrev pub has_key : KeyFields → Chunk → Bool
has_key k c = is_chunk k.upload k.n c

its_own : (c : Chunk) → has_key (key_fields c) c ≡ true
its_own c = rw ((Decides-int_eq c.upload c.upload).1 refl, (Decides-int_eq c.n c.n).1 refl) refl

both_true : (a b : Bool) → (a && b) ≡ true → (a ≡ true) × (b ≡ true)
both_true true b e = (refl, e)
both_true false b e = absurd (true≢false (sym e))

of_key : (k : KeyFields) (c : Chunk) → has_key k c ≡ true → key_fields c ≡ k
of_key k c is =
    let both = both_true _ _ is in
    ap₂ (λ (u n : ℤ). record { upload = u; n = n }) ((Decides-int_eq c.upload k.upload).0 both.0) ((Decides-int_eq c.n k.n).0 both.1)

less_differs : (a b : KeyFields) → key_cmp a b ≡ Less → a ≢ b
less_differs a b less same = at (key_cmp b b) (tied_itself key_total b) (sym (ap (λ k. key_cmp k b) same) ∙ less)
  where
    at : (o : Ordering) → o ≡ Equal → o ≡ Less → ⊥
    at Less e f = absurd (true≢false (ap is_lt e))
    at Equal e f = absurd (true≢false (sym (ap is_lt f)))
    at Greater e f = absurd (true≢false (sym (ap is_lt f)))

other_key : (k : KeyFields) (c : Chunk) → key_fields c ≢ k → has_key k c ≡ false
other_key k c other = at (has_key k c) refl
  where
    at : (b : Bool) → has_key k c ≡ b → b ≡ false
    at true is = absurd (other (of_key k c is))
    at false is = refl

-- ---- lists

-- the bytes of the first chunk with this key
abbrev pub bytes_of_key : KeyFields → List Chunk → Option (List ℕ)
bytes_of_key k cs = option_map (λ (c : Chunk). c.bytes) (find (has_key k) cs)

abbrev pub HaveSameBytes : List Chunk → List Chunk → List KeyFields → Type 0
HaveSameBytes cs ds = AllByRecursion (λ k. bytes_of_key k ds ≡ bytes_of_key k cs)

-- rowids are 0
abbrev pub ArePlaceless : List Chunk → Type 0
ArePlaceless = AllByRecursion (λ (c : Chunk). c.rowid ≡ pos 0)

skipped : (k : KeyFields) (c : Chunk) (cs : List Chunk) → key_cmp (key_fields c) k ≡ Less → bytes_of_key k (c ∷ cs) ≡ bytes_of_key k cs
skipped k c cs less = ap (λ b. option_map (λ (x : Chunk). x.bytes) (cond b (Some c) (find (has_key k) cs))) (other_key k c (less_differs (key_fields c) k less))

first_bytes : (c : Chunk) (cs : List Chunk) → bytes_of_key (key_fields c) (c ∷ cs) ≡ Some c.bytes
first_bytes c cs = ap (λ b. option_map (λ (x : Chunk). x.bytes) (cond b (Some c) (find (has_key (key_fields c)) cs))) (its_own c)

chunk_same : (c d : Chunk) → c.rowid ≡ pos 0 → d.rowid ≡ pos 0 → key_fields d ≡ key_fields c → d.bytes ≡ c.bytes → d ≡ c
chunk_same c d p q same bytes =
    ap₂ (λ (r : ℤ) (k : KeyFields). record { rowid = r; upload = k.upload; n = k.n; bytes = d.bytes }) (q ∙ sym p) same
    ∙ ap (λ (b : List ℕ). record { rowid = c.rowid; upload = c.upload; n = c.n; bytes = b }) bytes

-- lists with the same keys, which rise, and the same bytes for each key are the same
pub same_lists : (cs ds : List Chunk) → map key_fields ds ≡ map key_fields cs → KeysRise (map key_fields cs) → ArePlaceless cs → ArePlaceless ds
    → HaveSameBytes cs ds (map key_fields cs) → ds ≡ cs
same_lists [] [] same up p q bytes = refl
same_lists [] (d ∷ ds) same up p q bytes = absurd (omega (arith, ap length same))
same_lists (c ∷ cs) [] same up p q bytes = absurd (omega (arith, ap length same))
same_lists (c ∷ cs) (d ∷ ds) same up p q bytes =
    let key = head_same (key_fields d) (key_fields c) (map key_fields ds) (map key_fields cs) same in
    let more = tail_same (key_fields d) (key_fields c) (map key_fields ds) (map key_fields cs) same in
    let here = same_Some d.bytes c.bytes (sym (first_bytes d ds) ∙ ap (λ k. bytes_of_key k (d ∷ ds)) key ∙ bytes.0 ∙ first_bytes c cs) in
    let later = both_weaker (λ k. key_cmp (key_fields c) k ≡ Less) (λ k. bytes_of_key k (d ∷ ds) ≡ bytes_of_key k (c ∷ cs)) (λ k. bytes_of_key k ds ≡ bytes_of_key k cs)
    (λ k less is. sym (skipped k d ds (ap (λ j. key_cmp j k) key ∙ less)) ∙ is ∙ skipped k c cs less) (map key_fields cs) up.0 bytes.1 in
    ap₂ (λ x l. x ∷ l) (chunk_same c d p.0 q.0 key here) (same_lists cs ds more up.1 p.1 q.1 later)
  where
    both_weaker : (P Q R : KeyFields → Type 0) → ((k : KeyFields) → P k → Q k → R k) → (ks : List KeyFields) → AllByRecursion P ks → AllByRecursion Q ks → AllByRecursion R ks
    both_weaker P Q R f [] a b = tt
    both_weaker P Q R f (k ∷ ks) a b = (f k a.0 b.0, both_weaker P Q R f ks a.1 b.1)

-- ---- chunks that are arranged

in_order : (cs : List Chunk) → arranged cs ≡ cs → IsAscending (NotAfter chunk_cmp chunk_total) cs
in_order cs is = subst (IsAscending (NotAfter chunk_cmp chunk_total)) is (sorted_rises chunk_cmp chunk_total (map placeless cs))

without_rowids : (cs : List Chunk) → arranged cs ≡ cs → ArePlaceless cs
without_rowids cs is =
    subst ArePlaceless is (each_sorted chunk_cmp chunk_total (λ c. c.rowid ≡ pos 0) (map placeless cs)
    (all_map (λ (c : Chunk). c.rowid ≡ pos 0) placeless cs (all_of (λ (c : Chunk). pos 0 ≡ pos 0) (λ _. refl) cs)))

keys_sorted : (cs : List Chunk) → IsAscending (NotAfter chunk_cmp chunk_total) cs → IsSorted key_cmp (map key_fields cs)
keys_sorted cs up = is_sorted key_cmp key_total (map key_fields cs) (ascending-map (NotAfter key_cmp key_total) key_fields cs up)

tied_keys : (a b : KeyFields) → key_cmp a b ≡ Equal → a ≡ b
tied_keys a b e = at (int_cmp a.upload b.upload) refl e
  where
    at : (o : Ordering) → int_cmp a.upload b.upload ≡ o → ordering_then o (int_cmp a.n b.n) ≡ Equal → a ≡ b
    at Less is e = absurd (true≢false (ap is_lt e))
    at Equal is e = ap₂ (λ (u n : ℤ). record { upload = u; n = n }) (int_ranked a.upload b.upload Equal (sym is)) (int_ranked a.n b.n Equal (sym e))
    at Greater is e = absurd (true≢false (ap is_gt e))

neither : (a b : KeyFields) → is_gt (key_cmp a b) ≡ false → a ≢ b → key_cmp a b ≡ Less
neither a b most other = at (key_cmp a b) refl most
  where
    at : (o : Ordering) → key_cmp a b ≡ o → is_gt o ≡ false → o ≡ Less
    at Less is e = refl
    at Equal is e = absurd (other (tied_keys a b is))
    at Greater is e = absurd (true≢false e)

-- chunks in order rise by their keys if no two have one key
strictly : (cs : List Chunk) → IsAscending (NotAfter chunk_cmp chunk_total) cs → IsAscending HasOtherKey cs → KeysRise (map key_fields cs)
strictly cs up other = ascending-map (λ a b. key_cmp a b ≡ Less) key_fields cs (both cs up other)
  where
    each : (c : Chunk) (ds : List Chunk) → AllByRecursion (NotAfter chunk_cmp chunk_total c) ds → AllByRecursion (HasOtherKey c) ds → AllByRecursion (λ d. key_cmp (key_fields c) (key_fields d) ≡ Less) ds
    each c [] a b = tt
    each c (d ∷ ds) a b = (neither (key_fields c) (key_fields d) a.0 b.0, each c ds a.1 b.1)

    both : (ds : List Chunk) → IsAscending (NotAfter chunk_cmp chunk_total) ds → IsAscending HasOtherKey ds → IsAscending (λ (a b : Chunk). key_cmp (key_fields a) (key_fields b) ≡ Less) ds
    both [] a b = tt
    both (d ∷ ds) a b = (each d ds a.0 b.0, both ds a.1 b.1)

-- ---- some chunks of one list, and those of another

module _ (os ns : List Chunk) (kept : Chunk → Bool) (by_key : (c d : Chunk) → key_fields c ≡ key_fields d → kept c ≡ kept d) (arranged_os : arranged os ≡ os) (arranged_ns : arranged ns ≡ ns) where
  abbrev some : List Chunk
  some = filter kept os

  in_order_some : IsAscending (NotAfter chunk_cmp chunk_total) some
  in_order_some = ascending-filter (NotAfter chunk_cmp chunk_total) kept os (in_order os arranged_os)

  -- the first chunk with the key of one that is kept is kept
  found_kept : AllByRecursion (λ k. bytes_of_key k some ≡ bytes_of_key k os) (map key_fields some)
  found_kept =
      all_map (λ k. bytes_of_key k some ≡ bytes_of_key k os) key_fields some
      (all_weaker (λ c. kept c ≡ true) (λ c. bytes_of_key (key_fields c) some ≡ bytes_of_key (key_fields c) os)
      (λ c its. ap (option_map (λ (x : Chunk). x.bytes)) (find_weaker (has_key (key_fields c)) kept os
      (all_of (λ x. has_key (key_fields c) x ≡ true → kept x ≡ true) (λ x has. by_key x c (of_key (key_fields c) x has) ∙ its) os)))
      some (each_passes kept os))

  same_here : (ks : List KeyFields) → HaveSameBytes os ns ks → AllByRecursion (λ k. bytes_of_key k some ≡ bytes_of_key k os) ks → HaveSameBytes some ns ks
  same_here [] a b = tt
  same_here (k ∷ ks) a b = (a.0 ∙ sym b.0, same_here ks a.1 b.1)

  -- the chunks of the second list are those, and no two have one key, if both have the same keys, which rise, with the same bytes
  pub same_from_keys : (ks : List KeyFields) → IsPermutation ks (map key_fields some) → IsPermutation ks (map key_fields ns) → KeysRise ks → HaveSameBytes os ns ks
      → (ns ≡ some) × IsAscending HasOtherKey ns
  same_from_keys ks ours theirs up bytes =
      let one = sorted_unique key_cmp key_total ks (map key_fields some) up ours (keys_sorted some in_order_some) in
      let two = sorted_unique key_cmp key_total ks (map key_fields ns) up theirs (keys_sorted ns (in_order ns arranged_ns)) in
      let here = same_here (map key_fields some) (subst (HaveSameBytes os ns) (sym one) bytes) found_kept in (
        same_lists some ns (two ∙ sym one) (subst KeysRise (sym one) up) (all-filter (λ (c : Chunk). c.rowid ≡ pos 0) kept os (without_rowids os arranged_os)) (without_rowids ns arranged_ns) here,
        ascending_weaker (λ (a b : Chunk). key_cmp (key_fields a) (key_fields b) ≡ Less) HasOtherKey (λ a b. less_differs (key_fields a) (key_fields b)) ns
            (ascending_from_map (λ a b. key_cmp a b ≡ Less) key_fields ns (subst KeysRise (sym two) up)),
      )

  -- the other way round
  module _ (same : ns ≡ some) (single : IsAscending HasOtherKey ns) where
    keys_up : KeysRise (map key_fields ns)
    keys_up = strictly ns (in_order ns arranged_ns) single

    pub keys_from_same : (ks : List KeyFields) → IsPermutation ks (map key_fields ns) → IsSorted key_cmp ks → ks ≡ map key_fields ns
    keys_from_same ks theirs sorted = sorted_unique key_cmp key_total (map key_fields ns) ks keys_up (IsPermutation-sym ks (map key_fields ns) theirs) sorted

    pub bytes_from_same : HaveSameBytes os ns (map key_fields ns)
    bytes_from_same =
        subst (λ l. HaveSameBytes os l (map key_fields l)) (sym same) found_kept

    pub rise_from_same : KeysRise (map key_fields ns)
    rise_from_same = keys_up
