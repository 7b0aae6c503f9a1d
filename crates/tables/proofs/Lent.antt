-- The bytes in the first of the rows.
use Rattle.tables.proofs.Prelude.{◌≡◌, ◌<◌, List, [], ◌∷◌, map, length, slice_get, slice_index_or, option_map, Some, None, arith, refl, ap, ◌∙◌, column, bytes_of, Chunk, show_bytes}
use Rattle.sqlite.specs.Order.{Row}

pub none_lent : (rows : List Row) (chunks : List Chunk) → rows ≡ map show_bytes chunks → length rows ≡ 0 → None ≡ option_map (λ (c : Chunk). c.bytes) (slice_get chunks 0)
none_lent rows [] all none = refl
none_lent rows (c ∷ cs) all none = absurd (let e = ap length all in omega (arith, e, none))

pub first_lent : (rows : List Row) (chunks : List Chunk) (row : Row) → rows ≡ map show_bytes chunks → 0 < length rows → row ≡ slice_index_or rows 0 row → Some (bytes_of (column row 0)) ≡ option_map (λ (c : Chunk). c.bytes) (slice_get chunks 0)
first_lent rows [] row all some is = absurd (let e = ap length all in omega (arith, e, some))
first_lent rows (c ∷ cs) row all some is = ap (λ r. Some (bytes_of (column r 0))) (is ∙ ap (λ rs. slice_index_or rs 0 row) all)
