-- The head at the front of bytes that are not longer than the longest head.
use Rattle.wire.proofs.Prelude.{◌≡◌, ℕ, ◌≤◌, List, length, subst, take_all, HeaderSpan, head_limit, Covers, IsCut, IsCutOf}
use Rattle.wire.specs.declared.cut.Cut.{Cut}
use Rattle.wire.specs.declared.cut.Cut.TheVariants.{Head, Bad, Unfinished}

of_all : (bytes : List ℕ) (fields : List HeaderSpan) (cut : Cut) → length bytes ≤ head_limit → IsCut bytes fields cut → IsCutOf bytes fields cut
of_all bytes fields (Head spans) short is =
    (is.0, is.1, subst (λ (b : List ℕ). Covers b fields spans is.0) (take_all head_limit bytes short) is.2)
of_all bytes fields Bad short is = is
of_all bytes fields Unfinished short is = (record { none = is.0; short = is.1 }, is.2)

pub cut_found : (got bytes : List ℕ) (fields : List HeaderSpan) (cut : Cut) → got ≡ bytes → length bytes ≤ head_limit → IsCut got fields cut
    → IsCutOf bytes fields cut
cut_found got bytes fields cut e short is =
    of_all bytes fields cut short (subst (λ (b : List ℕ). IsCut b fields cut) e is)
