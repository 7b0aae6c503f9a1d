-- Reads into a buffer, moves in it, and copies out of it.
use Rattle.wire.proofs.Prelude.{◌≡◌, ℕ, ◌+◌, ◌-◌, ◌≤◌, List, [], ◌∷◌, ◌++◌, length, take, drop, sym, ap, ◌∙◌, arith, append-nil, length-drop, take-append-drop, drop-take, drop-drop, take-append-le, take_at, take-append-add}
use Rattle.std.proofs.Common.{length-take-le}

-- the first bytes after a position are those after it in a longer front
after : (xs : List ℕ) (at end : ℕ) → at ≤ end → take (end - at) (drop at xs) ≡ drop at (take end xs)
after xs at end h =
    let whole : at + (end - at) ≡ end = omega arith in
    sym (drop-take at (end - at) xs) ∙ ap (λ n. drop at (take n xs)) whole

-- n bytes of a piece that was read to the position `end`
pub read_at : (xs piece back : List ℕ) (end n : ℕ) → end ≤ length xs → n ≤ length piece
    → take (end + n) (take end xs ++ (piece ++ back)) ≡ take end xs ++ take n piece
read_at xs piece back end n fits within =
    let size : length (take end xs) ≡ end = length-take-le end xs fits in
    ap (λ k. take (k + n) (take end xs ++ (piece ++ back))) (sym size)
    ∙ take-append-add (take end xs) (piece ++ back) n
    ∙ ap (λ l. take end xs ++ l) (take-append-le n piece back within)

-- a copy of the middle to the front
pub moved : (xs : List ℕ) (at end : ℕ) → at ≤ end → end ≤ length xs
    → take (end - at) ((take 0 xs ++ take (end - at) (drop at xs)) ++ drop (0 + (end - at)) xs) ≡ drop at (take end xs)
moved xs at end h fits =
    take_at (take (end - at) (drop at xs)) (drop (0 + (end - at)) xs) (end - at)
    (length-take-le (end - at) (drop at xs) (omega (arith, length-drop at xs)))
    ∙ after xs at end h

-- n bytes were copied out to the front of a piece, and the bytes after them are left
pub copied : (front front' from piece back : List ℕ) (at at' n : ℕ) → from ≡ drop at front → front' ≡ front → at' ≡ at + n
    → n ≤ length piece → take n piece ≡ take n from → drop at front ≡ take n (piece ++ back) ++ drop at' front'
copied front front' from piece back at at' n e same next within bytes =
    let rest : drop at' front' ≡ drop n (drop at front) = ap (drop at') same ∙ ap (λ k. drop k front) next ∙ sym (drop-drop n at front) in
    let first : take n (piece ++ back) ≡ take n (drop at front) = take-append-le n piece back within ∙ bytes ∙ ap (take n) e in
    sym (take-append-drop n (drop at front)) ∙ ap (λ l. l ++ drop n (drop at front)) (sym first) ∙ ap (λ l. take n (piece ++ back) ++ l) (sym rest)

-- a read of no bytes
pub none_more : (xs ys more : List ℕ) → ys ≡ xs ++ more → length more ≡ 0 → ys ≡ xs
none_more xs ys [] e none = e ∙ append-nil xs
none_more xs ys (b ∷ more) e none = absurd (omega (arith, none))
