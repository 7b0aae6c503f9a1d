-- The names from other modules and crates that the proofs of this crate share.
pub use Rattle.model.specs.Policy.{Decision, Question, decide, decide_from, decision_by, held_by, held_if_named, holds, is_any, same_right}
pub use Rattle.model.specs.declared.Right.{Right}
pub use Rattle.names.specs.Names.{path_text, ref_text, repo_text}
pub use Rattle.names.specs.Texts.{begins, is_ref, is_repo}
pub use Rattle.policy.specs.Applicable.{ApplicableRowsDecide, applies, covers_place, decide_among, numbered_from, question_on}
pub use Rattle.policy.specs.Patterns.{hold_if_named, holds_every, pattern_holds, pattern_of, pattern_view}
pub use Rattle.policy.specs.Ranges.{are_distinct, are_entries, before_slash, ends_in_slash, is_among, is_count, longest_file, texts}
pub use Rattle.policy.specs.Reading.{IfRefused, Reads, Spells, at_key, at_place, document_fault, entry_fault, fault_in, policy_in, repo_in, repos_fault, repos_in, rights_named, row_in, rows_fault, rows_in, table_in}
pub use Rattle.policy.specs.Values.{numbered_view, policy_view, question_view, repo_view, row_view}
pub use Rattle.policy.specs.declared.faults.PolicyFault.{PolicyFault}
pub use Rattle.std.proofs.Common.{Bool, Bor, Err, Global, List, None, Ok, Option, Result, Some, String, [], ap, append_assoc, ap₂, arith, bytes_eq, codes, cond, drop, false, get_or, inl, inr, is_some, le-leb, length, length-append, lit<, map, not, option_map, refl, string_bytes, subst, suc, sym, take, true, unwrap_or, ℕ, ◌&&◌, ◌++◌, ◌+◌, ◌-◌, ◌<◌, ◌==◌, ◌||◌, ◌∙◌, ◌∷◌, ◌≡◌, ◌≢◌, ◌≤◌}
pub use Rattle.std.proofs.lemmas.Bool.{and_parts, cases_Bool, false_from_ne_true, not-true, or_from, or_parts, true≢false}
pub use Rattle.std.proofs.lemmas.Bool.Decides.{Decides-eqb}
pub use Rattle.std.proofs.lemmas.List.{append-nil, at_drop_all, drop_more, length-map, map-append}
pub use Rattle.std.proofs.lemmas.List.Folds.{list_all-map, list_any-append}
pub use Rattle.std.proofs.lemmas.Slice.Eq.{bytes_eq-Decides, ends_is, starts_is}
pub use Rattle.std.specs.List.{ends_with, filter, find, list_all, list_any}
pub use Rattle.std.specs.Option.{MatchOption, option_copied}
pub use Rattle.toml.specs.Data.{Data, Members, as_array, get_member}
pub use Rattle.toml.specs.View.{items_of, items_view, members_view, table_view, view}
