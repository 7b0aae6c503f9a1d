-- The names from other modules and crates that the proofs of this crate share.
pub use Rattle.names.specs.Names.{path_text, ref_text, repo_text, user_text}
pub use Rattle.sqlite.proofs.Callers.{IsPlain, command_of, reads_as}
pub use Rattle.sqlite.proofs.StateLemmas.{survives_then, survives_weaker}
pub use Rattle.sqlite.specs.Change.{next_tree}
pub use Rattle.sqlite.specs.Command.TheVariants.{Delete, Insert, Select, Update}
pub use Rattle.sqlite.specs.Compile.{table_defined_by}
pub use Rattle.sqlite.specs.Effect.{Database}
pub use Rattle.sqlite.specs.Held.{Held, state}
pub use Rattle.sqlite.specs.Listing.{reads_listing, understood}
pub use Rattle.sqlite.specs.Program.{overlay}
pub use Rattle.sqlite.specs.Rows.{sequence}
pub use Rattle.sqlite.specs.Schema.{Schema}
pub use Rattle.sqlite.specs.Source.TheVariants.{Values}
pub use Rattle.sqlite.specs.State.{Executes, ExecutesInside, HasCleanDisk, IsLive, Shown, Shows, State, Survives}
pub use Rattle.sqlite.specs.Term.{Term, col, lit, op2}
pub use Rattle.sqlite.specs.Values.{bound}
pub use Rattle.sqlite.specs.declared.error.Error.{Error}
pub use Rattle.sqlite.specs.declared.types.Value.{Value}
pub use Rattle.sqlite.specs.declared.types.Value.TheVariants.{Int, Null, Text}
pub use Rattle.sqlite_catalog.specs.Change.{KeepsRows, automatics}
pub use Rattle.sqlite_catalog.specs.Listing.{IsSound, IsTableRow, is_table_row}
pub use Rattle.sqlite_keyed.proofs.ListLemmas.{all-append, all-filter, all_both, all_kept, all_map, all_weaker, ascending-filter, ascending-map, ascending_weaker, filter_all, slice_get-filter}
pub use Rattle.sqlite_keyed.specs.Keyed.{IsKeyedBy, next_key}
pub use Rattle.sqlite_keyed.specs.Lists.{delete_where, update_where}
pub use Rattle.sqlite_rules.proofs.ListLemmas.{all_from, all_has, has_found, has_got}
pub use Rattle.sqlite_rules.specs.Cast.{cast_row}
pub use Rattle.sqlite_rules.specs.Edit.{id_in, next_rowid, numbered, put_all, with_rowid, without_all}
pub use Rattle.sqlite_schema.specs.Names.{table_named}
pub use Rattle.sqlite_schema.specs.declared.schema.Reference.{Reference}
pub use Rattle.sqlite_sql.specs.Term.{eval_all, holds}
pub use Rattle.sqlite_sql.specs.declared.ops.CompareOp.TheVariants.{Eq, Ge, Le}
pub use Rattle.sqlite_trees.specs.Objects.{catalog_tree}
pub use Rattle.sqlite_trees.specs.Tree.{IsAscending, IsTable, put_row, rowid}
pub use Rattle.sqlite_trees.specs.declared.store.Store.{Ghosts}
pub use Rattle.sqlite_typed.proofs.TestLemmas.{at_blobs, at_ints, at_texts, last_key, last_term, then_key, then_term}
pub use Rattle.sqlite_value.proofs.OrderLemmas.{value_cmp-Int, value_cmp-Text}
pub use Rattle.sqlite_value.specs.Order.{column, value_cmp}
pub use Rattle.std.proofs.Common.{Bool, Equal, Err, Greater, IfOk, IfSome, IsAscii, IsErr, IsErrAnd, IsSome, IsTrue, IsUtf8, Less, List, None, Ok, OnErr, OnOk, Option, Ordering, Result, Some, [], ap, ap₂, arith, codes, cond, drop, eq-eqb, eqb, false, filter, find, get_or, if◌then◌else◌, inl, inr, int_cmp, is_ge, is_le, is_some, length, map, map-id, nat_le, nat_lt, ne_eqb, negsuc, not, option_and_then, option_map, pos, refl, rules, set, slice_get, slice_index_or, subst, suc, sym, take, true, unwrap_or, w64, zero, ℕ, ℤ, ◌&&◌, ◌++◌, ◌+ℤ◌, ◌+◌, ◌<ℤ◌, ◌<◌, ◌==◌, ◌^◌, ◌||◌, ◌↔◌, ◌∙◌, ◌∷◌, ◌≡◌, ◌≢◌, ◌≤ℤ◌, ◌≤◌, ◌⊎◌}
pub use Rattle.std.proofs.lemmas.Bool.{and_from, and_parts, cases_Bool, cases_eq, true≢false}
pub use Rattle.std.proofs.lemmas.Int.{ints, to_z-of_z}
pub use Rattle.std.proofs.lemmas.Map.Text.{is_eq-slice_cmp}
pub use Rattle.std.proofs.lemmas.Result.{IfOk-weaker, on_ok_weaker}
pub use Rattle.std.proofs.lemmas.Slice.Eq.{bytes_eq-Decides}
pub use Rattle.std.specs.Char.{to_ascii_lowercase}
pub use Rattle.std.specs.Cmp.Lexicographic.{slice_cmp}
pub use Rattle.std.specs.Global.{Vec}
pub use Rattle.std.specs.List.{AllByRecursion, AllZip, list_all, list_any, onto_first, position_from}
pub use Rattle.std.specs.Ordering.{MatchOrdering, int_eq, is_eq, nat_cmp}
pub use Rattle.tables.specs.Calls.{Answers, Commits, Does, Finishes, IfReady, Looks, Transacts}
pub use Rattle.tables.specs.Choosing.{Chooses, LeadsSome}
pub use Rattle.tables.specs.Layout.{sequence_at, uploads_at}
pub use Rattle.tables.specs.Learning.{Learns}
pub use Rattle.tables.specs.Making.{IsBlank, insert_meta_text, text_for}
pub use Rattle.tables.specs.Remembered.{HasLast, IsEntryOf, IsFirst, IsLast, IsLastIn, IsLastOf, IsNoted, IsRemembered, KnowsStaged, is_entry_of, remembered_in}
pub use Rattle.tables.specs.Rows.{AllRise, Chunk, IsTyped, Lock, Meta, Part, Repo, RowOf, StayBut, Tables, Token, Upload, chunk_in, chunks, code_of, decode, encode, lock_in, lock_row, locks, meta_in, meta_row, name_of, place_of, repo_in, repo_row, repos, rows_in, rows_of, table_for, tables_of, tables_under, token_in, tokens, tree_of, upload_in, upload_row, uploads, with_rows}
pub use Rattle.tables.specs.Runs.{Blanks, HasNoTable, IsAfter, IsKept, IsReady, IsWritten, Leads, LeadsIfBlank, Steps, current_meta, tables_in, with_fresh}
pub use Rattle.tables.specs.Seeking.{Finds, IsStagedOf, Seeks}
pub use Rattle.tables.specs.Shown.{Adds, AddsNothing, Begins, Changes, HasTables, IsHonest, IsOpen, Makes, Moves, Reads, shown}
pub use Rattle.tables.specs.Schemas.{HasAll, HasCounts, HasNone, HasPart, HasWhole, IsLaid, LacksPart, counts_name, is_parent}
pub use Rattle.tables.specs.Staging.{IsAbove, IsTotalOf, IsUploadOf, RepoTotal, UploadFields, after_begin, after_complete, after_completion, after_found, after_settling, asked_chunk, asked_upload, begun_as, completion_by, completion_of, is_as_begun, objects_of, read_object, read_total, read_upload, repo_total, settled_as, upload_fields, upload_number, upload_sized, with_bytes, with_kept, with_last, with_used, without_found, without_found_from, without_staged, without_staged_from, without_staged_in, without_upload}
pub use Rattle.tables.specs.Statements.{Answered, Read, Write, add_chunk, add_lock, add_repo, add_token, add_used, answer, by_id, chunk_at, has_digest, has_expired, id_cmp, is_at, is_chunk, is_complete, is_for, is_from, is_held_by, is_named, is_object, is_object_in, is_of, is_of_from, is_staged, is_staged_in, is_staged_with, is_upload, lock_at, lock_with_id, locks_from, locks_in, made_by, name_cmp, object, objects, objects_in, read_params, read_text, remove_chunks, remove_chunks_from, remove_expired, remove_lock, remove_row, same_bytes, set_done, set_made, set_used, show_bytes, show_lock, show_made, show_meta, show_token, show_upload, show_used, staged, token, tokens_in, tokens_of, used_by, with_chunk, with_token, with_upload, without_chunks, without_chunks_from, without_lock, without_row, write_params, write_text}
pub use Rattle.tables.specs.Steps.{IsCountOf, IsLockOf, IsOutcomeOf, Outcome, RepoCount, after_add, after_create, after_outcome, asked_lock, asked_token, has_token, held, held_at, lock_fields, made_in, made_of, next_outcome, outcome_by, outcome_of, read_count, read_lock, read_token, repo_count, set_first, token_fields, used_in, used_of, used_up, with_made, with_new_lock}
pub use Rattle.tables.specs.declared.Store.{Store}
pub use Rattle.tables.specs.declared.fault.StoreFault.{StoreFault}
pub use Rattle.tables.specs.declared.locks.Count.{Count}
pub use Rattle.tables.specs.declared.new_rows.LastChunk.{LastChunk}
pub use Rattle.tables.specs.declared.new_rows.NewUpload.{NewUpload}
pub use Rattle.tables.specs.declared.rows.Completion.{Completion}
pub use Rattle.tables.specs.declared.rows.UploadId.{UploadId}
pub use Rattle.tables.specs.declared.rows.UploadRow.{UploadRow}
pub use Rattle.tables.specs.declared.staged.Remembered.{Remembered}
pub use Rattle.typed_rows.proofs.Casts.{cast_int, cast_null}
pub use Rattle.typed_rows.proofs.Found.{always, element, first_found, none_shown, one_more, with_fact}
pub use Rattle.typed_rows.proofs.Inserts.{inserts, same_value}
pub use Rattle.typed_rows.proofs.Meant.{Means, Plans, PlansTable, first, means, means_table}
pub use Rattle.typed_rows.proofs.Places.{at_first, got_last, placed_last, still_got, still_none, still_placed}
pub use Rattle.typed_rows.proofs.Transactions.{clean_before, executed, goes_on, inside_then, query_inside_keeps, query_stays, shown_open, shown_same, then_nothing, undone}
pub use Rattle.typed_rows.proofs.Typed.{appended, keys_rise, next_is, retyped, typed_by}
pub use Rattle.typed_rows.specs.Queries.{IsFree, is_given, ordered_by, plain_query, query_of, sorted_by}
pub use Rattle.typed_rows.specs.Rows.{IsTypedBy, Rises, bytes_of, int_of}
pub use Rattle.typed_rows.specs.Transactions.{Inside, Keeps}
