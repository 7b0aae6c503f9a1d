-- Visible characters are text.
use Rattle.tokens.proofs.Prelude.{◌≡◌, ℕ, zero, suc, ◌<◌, Bool, true, false, ◌&&◌, List, [], ◌∷◌, refl, sym, arith, list_all, true≢false, leb-true, is_visible}
use Rattle.std.specs.Str.{IsAscii, IsUtf8}
use Rattle.std.proofs.lemmas.Str.{IsUtf8-from_ascii}

both : (v w : Bool) → (v && w) ≡ true → (v ≡ true) × (w ≡ true)
both true true e = (refl, refl)
both true false e = absurd (true≢false (sym e))
both false w e = absurd (true≢false (sym e))

below : (b : ℕ) → is_visible b ≡ true → b < 128
below b e = omega (arith, leb-true b 126 (both _ _ e).1)

ascii : (bs : List ℕ) → list_all is_visible bs ≡ true → IsAscii bs
ascii [] all i = omega arith
ascii (b ∷ bs) all zero = below b (both _ _ all).0
ascii (b ∷ bs) all (suc i) = ascii bs (both _ _ all).1 i

pub visible_is_text : (bs : List ℕ) → list_all is_visible bs ≡ true → IsUtf8 bs
visible_is_text bs all = IsUtf8-from_ascii bs (ascii bs all)
