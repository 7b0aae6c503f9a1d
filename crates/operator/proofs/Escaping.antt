-- The escapes of a text, by its first bytes.
use Rattle.operator.proofs.Prelude.{◌≡◌, ◌∙◌, refl, sym, ap, ℕ, true, false, List, [], ◌∷◌, ◌++◌, append_assoc, escape, is_control}
use Rattle.std.proofs.lemmas.List.{append-nil}
use Rattle.operator.specs.Escapes.{escaped}

-- a control character first
pub escaped_control : (byte next : ℕ) (rest : List ℕ) → is_control byte next ≡ true → escaped (byte ∷ next ∷ rest) ≡ escape next ++ escaped rest
unfolding escaped
escaped_control byte next rest is = rw is refl

-- another byte first
pub escaped_other : (byte next : ℕ) (rest : List ℕ) → is_control byte next ≡ false → escaped (byte ∷ next ∷ rest) ≡ byte ∷ escaped (next ∷ rest)
unfolding escaped
escaped_other byte next rest is = rw is refl

-- the last byte
pub escaped_last : (byte : ℕ) → escaped (byte ∷ []) ≡ byte ∷ escaped []
unfolding escaped
escaped_last byte = refl

-- one piece more was added
pub escaped_step : (text rest more bytes piece next : List ℕ) → escaped text ≡ bytes ++ escaped rest → escaped rest ≡ piece ++ escaped more → next ≡ bytes ++ piece
    → escaped text ≡ next ++ escaped more
escaped_step text rest more bytes piece next so_far first made =
    so_far ∙ ap (λ (l : List ℕ). bytes ++ l) first ∙ sym (append_assoc bytes piece (escaped more)) ∙ ap (λ (l : List ℕ). l ++ escaped more) (sym made)

-- nothing is left
pub escaped_end : (text rest bytes : List ℕ) → escaped text ≡ bytes ++ escaped rest → rest ≡ [] → bytes ≡ escaped text
unfolding escaped
escaped_end text rest bytes so_far none = sym (so_far ∙ rw none (append-nil bytes))
