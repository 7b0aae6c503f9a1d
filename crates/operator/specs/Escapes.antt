-- Control characters in what the commands print on a terminal.
use Rattle.std.specs.Prelude.{ℕ, ◌++◌, ◌==◌, ◌&&◌, Bool, if◌then◌else◌, List, [], ◌∷◌, codes}
use Rattle.hex.specs.Hex.{encode_lower}
use Rattle.names.specs.Texts.{between}
use Rattle.operator.specs.declared.escapes.Destination.{Destination}
use Rattle.operator.specs.declared.escapes.Destination.TheVariants.{Terminal, Other}

-- whether the bytes are a character from U+0080 to U+009F in UTF-8
abbrev pub is_control : ℕ → ℕ → Bool
is_control first second = first == 194 && between 128 159 second

-- the escape of the character with this number, as in Rust: a backslash, `u{`, two hexadecimal digits, `}`
abbrev pub escape : ℕ → List ℕ
escape number = 92 ∷ codes "u{" ++ encode_lower (number ∷ []) ++ codes "}"

-- the text with the escapes of these characters in their place
unfoldable pub escaped : List ℕ → List ℕ
escaped [] = []
escaped (byte ∷ []) = byte ∷ []
escaped (byte ∷ next ∷ rest) = if is_control byte next then escape next ++ escaped rest else byte ∷ escaped (next ∷ rest)

-- the text as it is written: with escapes if it is written to a terminal
abbrev pub shown : Destination → List ℕ → List ℕ
shown Terminal text = escaped text
shown Other text = text
