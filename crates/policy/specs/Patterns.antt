-- The patterns of a row, read once for many comparisons.
use Rattle.std.specs.Prelude.{ℕ, Bool, true, false, ◌==◌, List, Option, Some, None, codes, bytes_eq, if◌then◌else◌}
use Rattle.std.specs.List.{list_any, ends_with}
use Rattle.names.specs.Texts.{begins}
use Rattle.model.specs.Policy.{is_any}
use Rattle.policy.specs.declared.patterns.Pattern as code
use Rattle.policy.specs.declared.patterns.Pattern.TheVariants as variant

-- every text; the texts that begin with a folder; one text alone
pub data Pattern : Type 0 where
  any : Pattern
  folder : List ℕ → Pattern
  only : List ℕ → Pattern

-- the pattern that a text spells
abbrev pub pattern_of : List ℕ → Pattern
pattern_of text =
    if is_any text then any
    else (if ends_with (λ a b. a == b) text (codes "/") then folder text else only text)

-- a pattern of the code
abbrev pub pattern_view : code.Pattern → Pattern
pattern_view variant.Any = any
pattern_view (variant.Folder front) = folder front.now
pattern_view (variant.Only text) = only text.now

-- the pattern holds the text
abbrev pub pattern_holds : Pattern → List ℕ → Bool
pattern_holds any text = true
pattern_holds (folder front) text = begins front text
pattern_holds (only other) text = bytes_eq other text

-- the pattern holds every text
abbrev pub holds_every : Pattern → Bool
holds_every any = true
holds_every (folder front) = false
holds_every (only other) = false

-- one of the patterns holds the text, or, if there is none, every text
abbrev pub hold_if_named : List Pattern → Option (List ℕ) → Bool
hold_if_named patterns (Some text) = list_any (λ p. pattern_holds p text) patterns
hold_if_named patterns None = list_any holds_every patterns
