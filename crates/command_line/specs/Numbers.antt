-- Which arguments are numbers. A text is the list of its bytes.
use Rattle.std.specs.Prelude.{ℕ, Bool, ◌&&◌, nat_le, List, length, Option, Some, None, if◌then◌else◌}
use Rattle.std.specs.Char.{is_ascii_digit}
use Rattle.std.specs.List.{list_all}
use Rattle.std.specs.Str.Parse.{digits_value}
use Rattle.names.specs.Texts.{between, last_moment}

-- 1 to 18 decimal digits
abbrev pub is_number : List ℕ → Bool
is_number text = between 1 18 (length text) && list_all is_ascii_digit text

-- the number that the digits write
abbrev pub number_in : List ℕ → Option ℕ
number_in text = if is_number text then Some (digits_value 10 text) else None

-- the number that the digits write, if it is in this range
abbrev pub number_within : ℕ → ℕ → List ℕ → Option ℕ
number_within least most text =
    if is_number text && between least most (digits_value 10 text) then Some (digits_value 10 text) else None

-- the moment that the digits write
abbrev pub moment_in : List ℕ → Option ℕ
moment_in text = if is_number text && nat_le (digits_value 10 text) last_moment then Some (digits_value 10 text) else None
