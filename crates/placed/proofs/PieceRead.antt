-- A piece that was read is one of the content.
use Rattle.placed.proofs.Prelude.{◌≡◌, inl, inr, ℕ, ◌*◌, ◌<◌, ◌≤◌, min, true, List, ◌++◌, length, take, drop, Option, Some, None, sym, ap, ◌∙◌, arith, cond, cases_lt, lt-ltb, take_all, take-append-le, length-drop, length-take-le, piece_size, piece_of}
use Rattle.std.proofs.Common.{◌-◌, nat_lt}

-- as many bytes as are left, but no more than those of a piece
rest_taken : (d : List ℕ) (len : ℕ) → len ≡ min (length d) piece_size → take len d ≡ take piece_size d
rest_taken d len is = elim (cases_lt piece_size (length d)) [
  | inl more ↦ let same : len ≡ piece_size = omega (arith, is, more) in ap (λ k. take k d) same
  | inr all ↦ take_all len d (omega (arith, is, all)) ∙ sym (take_all piece_size d all)
]

pub piece_read : (content buf rest : List ℕ) (len full at n : ℕ) → at ≡ n * piece_size → at < length content
    → len ≡ min (length content - at) piece_size → full ≡ len → buf ≡ take full (drop at content)
    → ◌≡◌ {A = Option (List ℕ)} (Some (take len (buf ++ rest))) (piece_of n content)
piece_read content buf rest len full at n is less most whole read =
    let d = length-drop at content in
    let short : len ≤ length (drop at content) = omega (arith, most, d) in
    let all : buf ≡ take len (drop at content) = read ∙ ap (λ k. take k (drop at content)) whole in
    let size : length buf ≡ len = ap length all ∙ length-take-le len (drop at content) short in
    let front : take len (buf ++ rest) ≡ buf = take-append-le len buf rest (omega (arith, size)) ∙ take_all len buf (omega (arith, size)) in
    let there : nat_lt (n * piece_size) (length content) ≡ true = lt-ltb (n * piece_size) (length content) (omega (arith, is, less)) in
    ap Some (front ∙ all ∙ rest_taken (drop at content) len (omega (arith, most, d)) ∙ ap (λ k. take piece_size (drop k content)) is)
    ∙ sym (ap (λ b. cond b (Some (take piece_size (drop (n * piece_size) content))) None) there)
