-- The text of lines.
use Rattle.std.specs.Prelude.{ℕ, List}
use Rattle.operator.specs.declared.output.Lines.{Lines}

-- the lines, each with its end
abbrev pub text_of : Lines → List ℕ
text_of lines = lines.text.items
