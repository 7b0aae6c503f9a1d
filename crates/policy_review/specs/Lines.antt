-- Lines of a text.
use Rattle.std.specs.Prelude.{ℕ, ◌+◌, ◌==◌, List, [], ◌∷◌, if◌then◌else◌}

-- the byte that ends a line
abbrev pub line_feed : ℕ
line_feed = 10

-- how many line ends the text has
abbrev pub line_ends : List ℕ → ℕ
line_ends [] = 0
line_ends (b ∷ text) = if b == line_feed then line_ends text + 1 else line_ends text

-- the longest part of a text that is printed, in bytes
abbrev pub longest_excerpt : ℕ
longest_excerpt = 60
