-- The names from other modules and crates that the proofs of this crate share.
pub use Rattle.matchit.specs.Router.{InsertsRead, Refused, RouteOf, map_key, nearest, rename, route_from}
pub use Rattle.matchit.specs.Rows.{RowsOf, catch_all_token, comes_before, param_token}
pub use Rattle.matchit.specs.Seek.{cuts, first, has_slash, longest_from, longest_suffix, or_else, own, same_text, segment, step, with_suffix}
pub use Rattle.model.specs.Heads.{Route, RouteRow, Segment, fits, literal, parameter, parameter_in, path_of, repo_text, route_at, route_of_parts, row_fits, under_lfs}
pub use Rattle.names.specs.Texts.{parts}
pub use Rattle.routes.specs.Patterns.{fitting, is_some_text, patterns, row_at, tokens}
pub use Rattle.routes.specs.Table.{pattern_of, resource_at, resources, row_of, rows_in, table, table_routed, whole_row}
pub use Rattle.routes.specs.declared.table.Resource.{Resource}
pub use Rattle.std.proofs.Common.{Bool, Err, List, None, Ok, Option, Result, Some, [], ap, append-nil, arith, bytes_eq, codes, cond, drop, false, find, get_or, length, length-append, lit<, map, nat_lt, not, option_map, refl, rules, subst, suc, sym, take, true, zero, ℕ, ◌&&◌, ◌++◌, ◌+◌, ◌-◌, ◌<◌, ◌==◌, ◌||◌, ◌∙◌, ◌∷◌, ◌≡◌, ◌≢◌, ◌≤◌}
pub use Rattle.std.proofs.lemmas.Bool.{and_from, and_parts, and_right, eqb-false, eqb-true, lt-ltb, ltb-true, ne_eqb, not-true, true≢false}
pub use Rattle.std.specs.List.{AllByRecursion, after_first, before_first, ends_with, list_all, onto_first, position_or_len, slice_get}
