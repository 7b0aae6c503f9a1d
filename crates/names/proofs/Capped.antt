-- A read through a limit on the bytes returned.
use Rattle.std.proofs.Common.{◌≡◌, ℕ, ◌+◌, ◌-◌, ◌<◌, ◌≤◌, List, [], ◌++◌, length, subst, take, Option, Some, None, Result, Ok, Err, sym, ap, ◌∙◌, rules, arith, length-take-le}
use Rattle.std.specs.Io.{ReadsAtMost}
use Rattle.std.specs.Io.KnownBytes.{Consumes, ReadConsumes, IsAtEnd}
use Rattle.std.proofs.lemmas.List.{take-append-le, take_all}
use Rattle.std.proofs.Math.Seq.{take-append-add}
use Rattle.names.specs.Streams.{cap_known}
use Rattle.names.specs.Counted.{read_of}

front : (room n : ℕ) (xs ys buf back : List ℕ) → n ≤ room → n ≤ length buf → xs ≡ take n buf ++ ys → take room xs ≡ take n (buf ++ back) ++ take (room - n) ys
front room n xs ys buf back fits within e =
    let size : length (take n buf) ≡ n = length-take-le n buf within in
    let sum : room ≡ length (take n buf) + (room - n) = omega arith in
    ap (take room) e ∙ ap (λ k. take k (take n buf ++ ys)) sum ∙ take-append-add (take n buf) ys (room - n)
    ∙ ap (λ l. l ++ take (room - n) ys) (sym (take-append-le n buf back within))

consumes : (room n : ℕ) (old new : Option (List ℕ)) (buf back : List ℕ) → n ≤ room → n ≤ length buf
    → Consumes old new (take n buf) → Consumes (cap_known room old) (cap_known (room - n) new) (take n (buf ++ back))
consumes room n None new buf back fits within e = tt
consumes room n (Some xs) None buf back fits within e = e
consumes room n (Some xs) (Some ys) buf back fits within e = front room n xs ys buf back fits within e

at_end : (most : ℕ) (known : Option (List ℕ)) → IsAtEnd known → IsAtEnd (cap_known most known)
at_end most None e = tt
at_end most (Some xs) e = ap (take most) e ∙ take_all most [] (omega arith)

-- the read filled the front `buf` of a piece `buf ++ back`; the limit left room if the piece had any
pub capped_read : (room n rest : ℕ) (old new : Option (List ℕ)) (buf back : List ℕ) → rest ≡ room - n → n ≤ room → n ≤ length buf
    → (0 < length (buf ++ back) → 0 < length buf)
    → Consumes old new (take n buf) × (n ≡ 0 → 0 < length buf → IsAtEnd new)
    → Consumes (cap_known room old) (cap_known rest new) (take n (buf ++ back))
    × (n ≡ 0 → 0 < length (buf ++ back) → IsAtEnd (cap_known rest new))
capped_read room n rest old new buf back e fits within has_room read =
    let taken = consumes room n old new buf back fits within read.0 in
    (rw e taken, λ none some. at_end rest new (read.1 none (has_room some)))

-- what is known of a read whose number of bytes was returned as the reader reported it
pub read_known : {E : Type 0} (reported : Result ℕ E) (n : ℕ) (old new : Option (List ℕ)) (buf : List ℕ) → read_of reported ≡ Ok n
    → ReadsAtMost reported buf → ReadConsumes old new reported buf
    → (n ≤ length buf) × (Consumes old new (take n buf) × (n ≡ 0 → 0 < length buf → IsAtEnd new))
read_known (Ok m) n old new buf e bound bytes =
    let same : m ≡ n = search rules in
    let Known : ℕ → Type 0 = λ k. (k ≤ length buf) × (Consumes old new (take k buf) × (k ≡ 0 → 0 < length buf → IsAtEnd new)) in
    subst Known same (bound.0, bytes)
read_known (Err f) n old new buf e bound bytes = search rules
