-- A text of two parts, of which some bytes were written, for proofs in other crates.
use Rattle.wire.proofs.Prelude.{◌≡◌, ℕ, ◌+◌, List, ◌++◌, take, Option, sym, ap, subst, ◌∙◌, length, length-append, arith, Appends, take-append-add, take-append-le}
use Rattle.names.specs.Streams.{IsBeginning}
use Rattle.wire.proofs.Appended.{appends_both}

pub begins_front : (old new : Option (List ℕ)) (front back : List ℕ) (n : ℕ) → IsBeginning old new front n → IsBeginning old new (front ++ back) n
begins_front old new front back n is = record {
  less = omega (arith, is.less, length-append front back);
  taken = subst (Appends old new) (sym (take-append-le n front back (omega (arith, is.less)))) is.taken;
}

pub begins_back : (old mid new : Option (List ℕ)) (front back : List ℕ) (n size : ℕ) → size ≡ length front → Appends old mid front → IsBeginning mid new back n
    → IsBeginning old new (front ++ back) (size + n)
begins_back old mid new front back n size e a is = record {
  less = omega (arith, is.less, e, length-append front back);
  taken = subst (Appends old new) (sym (take-append-add front back n) ∙ ap (λ k. take (k + n) (front ++ back)) (sym e)) (appends_both old mid new front (take n back) a is.taken);
}
