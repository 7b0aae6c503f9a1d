-- The names from other modules and crates that the proofs of this crate share.
pub use Rattle.sqlite.proofs.Callers.{IsPlain, command_of, one_permutation, one_step, reads_as, runs_as, statement_of}
pub use Rattle.sqlite.specs.Does.{AtPlace, Does, OnRows, Tally, lacks_sequence, sequence_text}
pub use Rattle.sqlite.specs.Effect.{Database, value_rows}
pub use Rattle.sqlite.specs.Listing.{reads_listing, understood}
pub use Rattle.sqlite.specs.Program.{overlay}
pub use Rattle.sqlite.specs.Rows.{Counts, CountsIn, Edited, Outcome, Queried, Sourced, Task, Written, count_of, counting, higher, last_id, rowids_for, sequence, stamped}
pub use Rattle.sqlite.specs.Source.TheVariants.{Values}
pub use Rattle.sqlite.specs.State.{Executes, ExecutesInside, FailsToShow, HasCleanDisk, IsLive, IsRolledBack, IsTooLate, IsUnchanged, KeepsCommit, Opens, RunsCommand, Shows, ShowsRows, Survives, Writes, mode_of, text_of}
pub use Rattle.sqlite.specs.declared.types.Value.{Value}
pub use Rattle.sqlite.specs.declared.types.Value.TheVariants.{Blob, Int, Null, Real, Text}
pub use Rattle.sqlite_ast.specs.Layer.{Layer, ShownLayer}
pub use Rattle.sqlite_ast.specs.declared.Expr.{Expr, out-Expr}
pub use Rattle.sqlite_ast.specs.declared.Expr.TheOpen.{Expr-F, Shown-F}
pub use Rattle.sqlite_ast.specs.declared.Sort.{Sort, out-Sort}
pub use Rattle.sqlite_catalog.specs.Listing.{IsIndexRow, IsSound, IsTableRow, IsViewRow, is_index_row, is_table_row, is_view_row}
pub use Rattle.sqlite_draft.specs.declared.query.Draft.{Draft}
pub use Rattle.sqlite_keyed.proofs.KeyedLemmas.{Less-from_lt, above_all, lt_from_Less}
pub use Rattle.sqlite_keyed.proofs.ListLemmas.{all-filter, all_map, all_of, all_weaker, along_permutation, ascending-map, ascending_from_map, ascending_weaker, map-map, map_back, map_same, slice_get-filter}
pub use Rattle.sqlite_keyed.proofs.RuleLemmas.{first_of_both, second_of_both}
pub use Rattle.sqlite_keyed.specs.Keyed.{IsKeyedBy, insert_by, next_key}
pub use Rattle.sqlite_resolve.specs.Body.{found_name, is_column, outputs, outputs_from, shown_at}
pub use Rattle.sqlite_resolve.specs.Compile.{is_reserved, new_rows, on_table, small, with_command}
pub use Rattle.sqlite_resolve.specs.Expr.{lower, node_at, passes}
pub use Rattle.sqlite_resolve.specs.Lowering.{Checked, Lowering, and_then, begin, chosen, fail, finish, fresh, get, lift, max_budget, pure, spend, ◌<$>◌, ◌>>=◌, ◌>>◌}
pub use Rattle.sqlite_resolve.specs.Order.{alias_in, aliased_or, collation_of, is_numeral, peeled, place_in, placed, sorts_from}
pub use Rattle.sqlite_resolve.specs.Scope.{Context, Name, alias_of, at_most_one, found_or, is_rowid, shown_again}
pub use Rattle.sqlite_resolve.specs.Select.{assembled, inside, paging, value_of}
pub use Rattle.sqlite_resolve.specs.declared.error.CompileError.TheVariants.{Mismatch, NoSuchColumn, Unsupported}
pub use Rattle.sqlite_resolve.specs.declared.scope.Bound.{Bound}
pub use Rattle.sqlite_resolve.specs.declared.scope.Found.TheVariants.{Alias, Rowid}
pub use Rattle.sqlite_resolve.specs.declared.scope.Level.{Level}
pub use Rattle.sqlite_rules.specs.Action.{deed_for, pairs, work_by, work_for, works}
pub use Rattle.sqlite_rules.specs.Edit.{Applies, at_least, edit_of, id_in, next_rowid, numbered, put_all, taken_by, without_all}
pub use Rattle.sqlite_rules.specs.declared.error.Rowids.TheVariants.{Above, Chosen, Given}
pub use Rattle.sqlite_schema.specs.Names.{column_named, is_key, same_name, table_named}
pub use Rattle.sqlite_schema.specs.declared.command.Command.{Command}
pub use Rattle.sqlite_schema.specs.declared.program.Program.{Program}
pub use Rattle.sqlite_schema.specs.declared.schema.Keys.TheVariants.{Enforced}
pub use Rattle.sqlite_sql.specs.Query.{end, inner}
pub use Rattle.sqlite_sql.specs.Term.{case, eval_all, holds, lit, op1, op2}
pub use Rattle.sqlite_trees.proofs.TreeLemmas.{IsTable-put_row}
pub use Rattle.sqlite_trees.specs.Tree.{IsAscending, IsTable, put_row, rowid}
pub use Rattle.sqlite_typed.proofs.AnswerLemmas.{answer_by_keys, at_end, last_table, matches_are}
pub use Rattle.sqlite_typed.proofs.RowLemmas.{deletes-map, puts-map}
pub use Rattle.sqlite_value.proofs.OrderLemmas.{value_cmp-Int}
pub use Rattle.sqlite_value.specs.Order.{value_cmp}
pub use Rattle.sqlite_value.specs.declared.keys.Collation.{Collation}
pub use Rattle.std.proofs.Common.{Bool, Equal, Err, Greater, IfErr, IfOk, IsTrue, Less, List, MatchBool, None, Ok, OnOk, Option, Ordering, Result, Some, [], ap, ap₂, arith, codes, cond, drop, eqb, eqb-true, false, filter, filter_map, find, flat_map, fold, get_or, get_or-take, if◌then◌else◌, inl, inr, int_cmp, is_lt, is_some, length, map, map-id, nat_le, nat_lt, ne_eqb, not, option_and_then, option_map, pos, refl, slice_get, slice_index, subst, suc, sym, take, true, unwrap_or, zero, ℕ, ℤ, ◌&&◌, ◌++◌, ◌+ℤ◌, ◌+◌, ◌/◌, ◌<ℤ◌, ◌<◌, ◌==◌, ◌^◌, ◌||◌, ◌∙◌, ◌∷◌, ◌≡◌, ◌≢◌, ◌≤ℤ◌, ◌≤◌, ◌⊎◌}
pub use Rattle.std.proofs.lemmas.Int.{ints}
pub use Rattle.std.specs.List.{AllByRecursion, AllZip, list_all, list_any, position_from}
pub use Rattle.typed_rows.specs.Rows.{IsTypedBy, Rises, bytes_of, int_of}
