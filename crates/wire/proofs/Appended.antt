-- One text written after another, for proofs in other crates.
use Rattle.wire.proofs.Prelude.{ℕ, List, ◌++◌, Option, Some, None, ap, ◌∙◌, append_assoc, Appends}

pub appends_both : (old mid new : Option (List ℕ)) (front back : List ℕ) → Appends old mid front → Appends mid new back → Appends old new (front ++ back)
appends_both None mid new front back a b = tt
appends_both (Some xs) None new front back a b = absurd a
appends_both (Some xs) (Some ys) None front back a b = b
appends_both (Some xs) (Some ys) (Some zs) front back a b = b ∙ ap (λ l. l ++ back) a ∙ append_assoc xs front back
