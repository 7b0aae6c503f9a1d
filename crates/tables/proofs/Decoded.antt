-- The rows of `meta`, decoded.
use Rattle.tables.proofs.Prelude.{◌≡◌, ℕ, ◌<◌, ◌≤◌, ℤ, pos, List, [], ◌∷◌, length, map, get_or, sym, ap, ◌∙◌, arith, Value, Int, column, Meta, show_meta}
use Rattle.sqlite_value.specs.Order.{Row}

same_int : {a b : ℤ} → ◌≡◌ {A = Value} (Int a) (Int b) → a ≡ b
same_int h = cc

same_pos : {a b : ℕ} → pos a ≡ pos b → a ≡ b
same_pos h = cc

-- the only row of `meta`, if its numbers are 1 and this one
pub one_meta : (number : ℕ) (rows : List Row) (row : Row) (metas : List Meta) (one version : ℕ) → 1 ≤ length rows → length rows < 2 → row ≡ get_or rows 0 row → rows ≡ map show_meta metas → column row 0 ≡ Int (pos one) → column row 1 ≡ Int (pos version)
    → one ≡ 1 → version ≡ number → metas ≡ record { one = pos 1; version = pos number } ∷ []
one_meta number rows row [] one version some few at all first second is_one is_version = absurd (let none : length rows ≡ 0 = ap length all in omega arith)
one_meta number rows row (m ∷ []) one version some few at all first second is_one is_version =
    let is : row ≡ show_meta m = at ∙ ap (λ l. get_or l 0 row) all in
    let a : Int m.one ≡ Int (pos one) = sym (ap (λ r. column r 0) is) ∙ first in
    let b : Int m.version ≡ Int (pos version) = sym (ap (λ r. column r 1) is) ∙ second in
    let e : m.one ≡ pos 1 = same_int a ∙ ap pos is_one in
    let f : m.version ≡ pos number = same_int b ∙ ap pos is_version in
    λ i. record { one = e i; version = f i } ∷ []
one_meta number rows row (m ∷ n ∷ more) one version some few at all first second is_one is_version = absurd (let many : length rows ≡ length (map show_meta (m ∷ n ∷ more)) = ap length all in omega arith)

-- and the converse
pub meta_one : (number : ℕ) (rows : List Row) (row : Row) (metas : List Meta) (one version : ℕ) → row ≡ get_or rows 0 row → rows ≡ map show_meta metas → column row 0 ≡ Int (pos one) → column row 1 ≡ Int (pos version) → metas ≡ record { one = pos 1; version = pos number } ∷ [] → (one ≡ 1) × (version ≡ number)
meta_one number rows row metas one version at all first second is =
    let shown : row ≡ show_meta (record { one = pos 1; version = pos number }) = at ∙ ap (λ l. get_or l 0 row) (all ∙ ap (map show_meta) is) in
    let a : Int (pos one) ≡ Int (pos 1) = sym first ∙ ap (λ r. column r 0) shown in
    let b : Int (pos version) ≡ Int (pos number) = sym second ∙ ap (λ r. column r 1) shown in
    (same_pos (same_int a), same_pos (same_int b))
