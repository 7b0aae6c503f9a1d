-- The names from other modules and crates that the proofs of this crate share.
pub use Rattle.model.specs.Callers.{bearer, caller_by, is_visible}
pub use Rattle.model.specs.Operator.{IsTokenRequest, after_token, already_issued, by_fault, by_success, expires_too_late, token_verdict}
pub use Rattle.model.specs.World.{IsToken, IsWorld, Token, World, find_token, with_token, without_expired}
pub use Rattle.names.specs.Names.{repo_text, user_text}
pub use Rattle.names.specs.Texts.{is_hex_64, is_hex_digit, last_moment}
pub use Rattle.names.specs.declared.rules.Rule.TheVariants.{A2, A3}
pub use Rattle.refinement.proofs.Tokens.{expired_counted, expired_gone, filter_alike, holds_pruned, holds_token, none_is, some_alike, some_is, still_if_known, token_known, would_add}
pub use Rattle.refinement.specs.Representation.{Holds, Represents, token_kept, token_row}
pub use Rattle.sha2.specs.Sha256.{sha256}
pub use Rattle.std.proofs.Common.{Bool, Err, IfOk, IsErrAnd, IsPermutation, IsTrue, List, MatchResult, None, Ok, OnErr, OnOk, Option, Result, Some, [], ap, arith, false, filter, find, get_or, is_some, length, map, nat_le, nat_lt, not, option_map, pos, refl, rules, subst, suc, sym, true, zero, ℕ, ◌%◌, ◌&&◌, ◌*◌, ◌+◌, ◌/◌, ◌<◌, ◌∙◌, ◌∷◌, ◌≡◌, ◌≤◌}
pub use Rattle.std.proofs.lemmas.Bool.{leb-true, true≢false}
pub use Rattle.std.specs.List.{list_all}
pub use Rattle.tables.specs.Rows.{Tables}
pub use Rattle.store.specs.Shown.{Fails, IsHonest, IsOpen, Makes, shown}
pub use Rattle.tables.specs.Statements.{has_digest, has_expired, is_for, is_held_by}
pub use Rattle.tables.specs.Steps.{AreTokensOf, TokenFields, after_add, code_of, has_token, read_token, token_fields}
pub use Rattle.tokens.specs.Callers.{IsCalling, IsGoodAt}
pub use Rattle.tokens.specs.Holding.{fields_of_token, is_in, is_of}
pub use Rattle.tokens.specs.Issuing.{Issues, Refuses, denial_of, report_of, token_asked, token_until}
