-- The tokens of a repository that are valid at a moment.
use Rattle.std.specs.Prelude.{ℕ, List, map, filter, IsPermutation}
use Rattle.std.specs.Ordering.{nat_cmp, ordering_then}
use Rattle.std.specs.declared.cmp.Ordering.{Ordering}
use Rattle.std.specs.Cmp.Lexicographic.{slice_cmp}
use Rattle.names.specs.Names.{user_text}
use Rattle.model.specs.World.{World, Token, without_expired}
use Rattle.tables.specs.Steps.{read_token}
use Rattle.tables.specs.declared.rows.TokenRow.{TokenRow}
use Rattle.tokens.specs.Holding.{is_in, fields_of_token}

-- the tokens for the repository that are valid at the moment, which a removal of the expired ones leaves
abbrev pub valid_in : (repo : List ℕ) (now : ℕ) → World → List Token
valid_in repo now world = filter (is_in repo) (without_expired now world).tokens

-- the rows are these tokens, in any order
abbrev pub AreValid : (repo : List ℕ) (now : ℕ) → World → List TokenRow → Type 0
AreValid repo now world rows = IsPermutation (map read_token rows) (map fields_of_token (valid_in repo now world))

-- the order of the list: that of users, then that of the moments of expiry, then that of digests
abbrev pub token_cmp : TokenRow → TokenRow → Ordering
token_cmp a b =
    ordering_then (ordering_then (slice_cmp nat_cmp (user_text a.user) (user_text b.user)) (nat_cmp a.expires b.expires))
    (slice_cmp nat_cmp a.digest b.digest)
