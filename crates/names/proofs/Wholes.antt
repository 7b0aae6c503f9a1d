-- One more piece written.
use Rattle.std.proofs.Common.{◌≡◌, ℕ, ◌+◌, List, ◌++◌, take, drop, Option, Some, None, sym, ap, subst, ◌∙◌, append_assoc}
use Rattle.std.specs.Io.KnownBytes.{Appends}
use Rattle.std.proofs.Math.Seq.{take-add}

appends_more : (old mid new : Option (List ℕ)) (text : List ℕ) (at n : ℕ) → Appends old mid (take at text)
    → Appends mid new (take n (drop at text)) → Appends old new (take (at + n) text)
appends_more None mid new text at n a b = tt
appends_more (Some xs) None new text at n a b = absurd a
appends_more (Some xs) (Some ys) None text at n a b = b
appends_more (Some xs) (Some ys) (Some zs) text at n a b =
    b ∙ ap (λ l. l ++ take n (drop at text)) a ∙ append_assoc xs (take at text) (take n (drop at text)) ∙ ap (λ l. xs ++ l) (sym (take-add at n text))

pub appends_rest : (old mid new : Option (List ℕ)) (text piece : List ℕ) (at n : ℕ) → piece ≡ drop at text → Appends old mid (take at text)
    → Appends mid new (take n piece) → Appends old new (take (at + n) text)
appends_rest old mid new text piece at n e a b =
    let P : List ℕ → Type 0 = λ p. Appends mid new (take n p) in appends_more old mid new text at n a (subst P e b)
