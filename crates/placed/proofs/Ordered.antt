-- What holds of chunks holds of them in their order.
use Rattle.placed.proofs.Prelude.{Bool, true, false, cond, List, [], ◌∷◌, is_gt, AllByRecursion, all_weaker, IsAscending, insert_sorted, Chunk, placeless, chunk_cmp, arranged}

all_inserted : (P : Chunk → Type 0) (c : Chunk) (cs : List Chunk) → P c → AllByRecursion P cs
    → AllByRecursion P (insert_sorted chunk_cmp c cs)
all_inserted P c [] here all = (here, tt)
all_inserted P c (x ∷ cs) here all = at (is_gt (chunk_cmp c x)) (all_inserted P c cs here all.1)
  where
    at : (b : Bool) → AllByRecursion P (insert_sorted chunk_cmp c cs)
        → AllByRecursion P (cond b (x ∷ insert_sorted chunk_cmp c cs) (c ∷ x ∷ cs))
    at true rest = (all.0, rest)
    at false rest = (here, all)

pub all_arranged : (P : Chunk → Type 0) (cs : List Chunk) → AllByRecursion (λ c. P (placeless c)) cs
    → AllByRecursion P (arranged cs)
all_arranged P [] all = tt
all_arranged P (c ∷ cs) all = all_inserted P (placeless c) (arranged cs) all.0 (all_arranged P cs all.1)

-- a relation that holds in both directions
module _ (R : Chunk → Chunk → Type 0) (turned : (a b : Chunk) → R a b → R b a) where
  related_inserted : (c : Chunk) (cs : List Chunk) → AllByRecursion (R c) cs → IsAscending R cs
      → IsAscending R (insert_sorted chunk_cmp c cs)
  related_inserted c [] all up = (tt, tt)
  related_inserted c (x ∷ cs) all up = at (is_gt (chunk_cmp c x)) (related_inserted c cs all.1 up.1)
    where
      at : (b : Bool) → IsAscending R (insert_sorted chunk_cmp c cs)
          → IsAscending R (cond b (x ∷ insert_sorted chunk_cmp c cs) (c ∷ x ∷ cs))
      at true rest = (all_inserted (R x) c cs (turned c x all.0) up.0, rest)
      at false rest = (all, up)

  -- it holds of each two chunks still, once they are arranged, if it says nothing of where they are in the table
  pub related_arranged : ((a b : Chunk) → R a b → R (placeless a) (placeless b)) → (cs : List Chunk) → IsAscending R cs
      → IsAscending R (arranged cs)
  related_arranged aside [] up = tt
  related_arranged aside (c ∷ cs) up =
      related_inserted (placeless c) (arranged cs)
      (all_arranged (R (placeless c)) cs (all_weaker (R c) (λ x. R (placeless c) (placeless x)) (λ x. aside c x) cs up.0))
      (related_arranged aside cs up.1)
