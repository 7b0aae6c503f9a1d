-- The names from other modules and crates that the proofs of this crate share.
pub use Rattle.model.proofs.Lists.{In, each_filter, each_in, each_of, each_passes, each_weaker, filter_weaker, find_and, find_filter, find_rising, found_passes, in_before_filter, in_found, into, none_where, only_left}
pub use Rattle.model.proofs.Tests.{both_true}
pub use Rattle.model.specs.Bounds.{Bound, Ending, IsWithin, SameWorld, TokenDigest, answer_ending, bound_after, bound_of_run, changed, ending_of, failed, intended_world, is_changed, left_by, token_digest, world_by}
pub use Rattle.model.specs.RepoState.{locks_of}
pub use Rattle.model.specs.World.{DiffersInDigest, DiffersInId, DiffersInName, DiffersInPlace, IsToken, IsWorld, Lock, Object, Token, World, find_token, nothing, object_named, one_more, total, with_lock, with_object, with_token, without_expired}
pub use Rattle.names.specs.Texts.{largest_object, last_lock_id}
pub use Rattle.refinement.specs.Left.{Ends, From, Gives, IsAmong, IsBoundedBy, Keeps, KeepsTables, Leads, LeavesTables, Reads, Takes}
pub use Rattle.refinement.specs.Lookup.{lock_on, lock_with}
pub use Rattle.refinement.specs.Objects.{DiffersInRepo, HasPieces, HasSize, RepresentObjects, bytes_of, chunk_kept, chunks_of, number_cmp, object_in, piece_rows, pieces_of}
pub use Rattle.refinement.specs.Representation.{Holds, Represents, lock_kept, lock_row, token_kept, token_row}
pub use Rattle.refinement.specs.Staging.{IsStaged, Stages, StagesNone, pieces_with, staged_row}
pub use Rattle.sha2.specs.Sha256.{sha256}
pub use Rattle.sqlite.specs.Files.{over_files}
pub use Rattle.sqlite_keyed.proofs.ListLemmas.{all-append, all-filter, all_both, all_kept, all_map, all_of, all_weaker, ascending-append, ascending-filter, ascending-map, ascending_weaker, filter_all, filter_none}
pub use Rattle.sqlite_keyed.proofs.SortLemmas.{IsPermutation-sort_by, sort_by-map, sorted_unique}
pub use Rattle.sqlite_keyed.specs.Keyed.{IsKeyedBy, next_key}
pub use Rattle.sqlite_keyed.specs.Lists.{delete_where, insert_sorted, update_where}
pub use Rattle.sqlite_trees.proofs.ListLemmas.{IsPermutation-filter, filter-map}
pub use Rattle.sqlite_trees.specs.Tree.{IsAscending, Trees}
pub use Rattle.std.proofs.Common.{All, AllPairs, Bool, Equal, Err, Greater, IfSome, IsPermutation, IsSorted, IsTrue, Less, List, None, Ok, OnErr, OnOk, Option, Ordering, Result, Some, [], add-one, ap, ap₂, arith, bytes_eq, cond, false, filter, find, inl, inr, is_gt, is_lt, is_some, length, map, nat_le, nat_lt, not, option_map, pos, refl, subst, suc, sum_by, sym, true, zero, ℕ, ℤ, ◌&&◌, ◌++◌, ◌+ℤ◌, ◌+◌, ◌<ℤ◌, ◌<◌, ◌==◌, ◌∙◌, ◌∷◌, ◌≡◌, ◌≢◌, ◌≤◌, ◌⊎◌}
pub use Rattle.std.proofs.Math.Logic.{∥∥₁_map}
pub use Rattle.std.proofs.lemmas.Bool.Decides.{Decides-int_eq, nat_tests}
pub use Rattle.std.proofs.lemmas.Bool.{and_from, cases_eq, cond_both, true≢false}
pub use Rattle.std.proofs.lemmas.Cmp.{int_cmp_total, on_total, then_total, upto}
pub use Rattle.std.proofs.lemmas.Int.{ints}
pub use Rattle.std.proofs.lemmas.List.Elements.{All-from_recursion, filter-append, recursion_from_All}
pub use Rattle.std.proofs.lemmas.List.Folds.{concat-append, find-append}
pub use Rattle.std.proofs.lemmas.List.Kept.{AllPairs-cons, AllPairs-filter}
pub use Rattle.std.proofs.lemmas.List.Sorted.{All-permutation, IsPermutation-append_left, IsPermutation-cons, IsPermutation-map, IsPermutation-middle, IsPermutation-refl, IsPermutation-sym, IsPermutation-to_front, IsPermutation-trans, length_permutation}
pub use Rattle.std.proofs.lemmas.List.{length-map, map-append}
pub use Rattle.std.proofs.lemmas.Map.Text.{is_eq-slice_cmp}
pub use Rattle.std.proofs.lemmas.Option.{none-some}
pub use Rattle.std.proofs.lemmas.Slice.Eq.{bytes_eq-Decides}
pub use Rattle.std.specs.Cmp.{IsTotalOrder}
pub use Rattle.std.specs.List.{AllByRecursion, concat}
pub use Rattle.std.specs.Ordering.{int_cmp, int_eq, ordering_reverse, ordering_then}
pub use Rattle.std.specs.Prelude.{int_le}
pub use Rattle.store.proofs.Moved.{moves_none, moves_still, moves_then, nothing_none, nothing_then}
pub use Rattle.store.specs.Normal.{normal, Remains}
pub use Rattle.store.specs.Shown.{AddsNothing, Begins, Fails, FailsAny, HasTables, IsDurable, IsHonest, IsOpen, IsSafe, Leaves, Makes, Moves, Puts, shown}
pub use Rattle.store.specs.declared.state.State.{Ghosts}
pub use Rattle.tables.specs.Rows.{Repo, Tables, tables_of}
pub use Rattle.tables.specs.Runs.{fresh}
pub use Rattle.tables.specs.Staging.{IsAbove, IsBegun, after_begin, after_completion, after_found, asked_chunk, asked_upload, completion_by, completion_of, is_as_begun, set_used, settled_as, staged_with, upload_number, with_last, without_found_from, without_staged, without_staged_from}
pub use Rattle.tables.specs.Statements.{by_id, has_digest, has_expired, has_id, id_cmp, is_at, is_chunk, is_complete, is_from, is_in, is_object, is_of, is_of_from, is_staged, is_staged_in, is_staged_with, is_upload, same_bytes, with_chunk}
pub use Rattle.tables.specs.Steps.{LockFields, Outcome, after_outcome, code_of, created, greatest_id, has_token, held, lock_fields, made_in, made_of, outcome_by, outcome_of, set_first, set_made, used_in, used_of, used_up, with_new_lock}
pub use Rattle.tables.specs.declared.new_rows.LastChunk.{LastChunk}
