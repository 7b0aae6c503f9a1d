-- The size of a file from 1 MB to 10 MB.
use Rattle.std.proofs.Common.{◌≡◌, ◌<◌, ◌≤◌, ◌/◌, ◌%◌, ◌++◌, ℕ, true, false, nat_lt, arith, refl}
use Rattle.std.specs.Prelude.{codes, decimal}
use Rattle.std.proofs.lemmas.Bool.Decides.{nat_tests}
use Rattle.cli.specs.Sizes.{size_text}

less : (a b : ℕ) → a < b → nat_lt a b ≡ true
less a b h = grind (arith, nat_tests)

not_less : (a b : ℕ) → b ≤ a → nat_lt a b ≡ false
not_less a b h = grind (arith, nat_tests)

pub in_tenths : (n : ℕ) → 1000000 ≤ n → n < 10000000 → decimal (n / 1000000) ++ (codes "." ++ (decimal (n / 100000 % 10) ++ codes " MB")) ≡ size_text n
in_tenths n least most = rw (not_less n 1000000 least, less n 10000000 most) refl
