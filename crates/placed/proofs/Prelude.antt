-- The names from other modules and crates that the proofs of this crate share.
pub use Rattle.contents.specs.Drafts.{HasWritten}
pub use Rattle.contents.specs.Files.{HasAt, HasContent, IsSameFile, KeepsContents, KeepsOthers}
pub use Rattle.contents.specs.InUse.{regions_of}
pub use Rattle.contents.specs.Regions.{IsReserved}
pub use Rattle.contents.specs.declared.draft.Draft.{Draft}
pub use Rattle.contents.specs.declared.region.Region.{Region}
pub use Rattle.contents.specs.declared.regions.Regions.{Regions}
pub use Rattle.placed.specs.Altered.{IsAlteredBy}
pub use Rattle.placed.specs.Kept.{AreBeside, ArePlacesApart, AreReceived, AreSeparate, AreStagedApart, HasSinglePlaces, IsBeside, IsPlace, IsReceived, IsServed, IsStagedIn, OfOthers, places_in}
pub use Rattle.placed.specs.Pieces.{cut_into, piece_size}
unfoldable pub use Rattle.placed.specs.Pieces.{pieces}
pub use Rattle.placed.specs.Placed.{AreHonest, IsFileHonest, HasPlaces, IsPlaced, beside, shown_with, staged_of}
pub use Rattle.placed.specs.Places.{is_piece, is_place, place_number, place_of, region_in}
pub use Rattle.placed.specs.Reading.{piece_of}
pub use Rattle.placed.specs.Seeking.{AreOfOthers, IsRegionOf, IsTruncated, place_in}
pub use Rattle.placed.specs.View.{all_chunks, content_in, others_of, others_of_found, pieces_at, pieces_in, received_pieces, shown_meta, written_in}
unfoldable pub use Rattle.placed.specs.View.{view}
pub use Rattle.placed.specs.declared.placed.Placed.{Placed}
pub use Rattle.placed.specs.declared.staged.Staged.{Staged}
pub use Rattle.sqlite_keyed.proofs.KeyedLemmas.{int_eq_apart, same_int}
pub use Rattle.sqlite_keyed.proofs.ListLemmas.{all-append, all-filter, all_weaker, ascending-append, ascending-filter, filter-filter, filter_all, slice_get-filter}
pub use Rattle.sqlite_keyed.specs.Keyed.{next_key}
pub use Rattle.sqlite_keyed.specs.Lists.{insert_sorted, sort_by}
pub use Rattle.sqlite_trees.proofs.ListLemmas.{filter-map}
pub use Rattle.sqlite_trees.specs.Tree.{IsAscending}
pub use Rattle.std.proofs.Common.{All, Bool, Contains, Err, HoldsAt, IsTrue, List, None, Ok, Option, Result, Some, [], add-one, ap, append-nil, ap₂, arith, cond, drop, false, filter, find, inl, inr, is_gt, is_some, length, map, min, not, option_map, pos, refl, rules, slice_get, slice_index_or, subst, suc, sym, take, true, true≢false, zero, ℕ, ℤ, ◌&&◌, ◌*◌, ◌++◌, ◌+◌, ◌<◌, ◌^◌, ◌∙◌, ◌∷◌, ◌≡◌, ◌≢◌, ◌≤◌}
pub use Rattle.std.proofs.Math.Seq.{split_at}
pub use Rattle.std.proofs.lemmas.Bool.{and_parts, cases_lt, lt-ltb}
pub use Rattle.std.proofs.lemmas.Cmp.{int_cmp_total, tied_itself}
pub use Rattle.std.proofs.lemmas.Grind.{flat_map-append}
pub use Rattle.std.proofs.lemmas.Int.{ints}
pub use Rattle.std.proofs.lemmas.List.{drop-set, get_or-take, length-append, length-drop, length-take-le, map-append, take-append-drop, take-append-le, take-set, take-take, take_all}
pub use Rattle.std.proofs.lemmas.List.Elements.{filter-append}
pub use Rattle.std.proofs.lemmas.List.Folds.{find-append}
pub use Rattle.std.proofs.lemmas.Option.{none-some, same_Some}
pub use Rattle.std.proofs.lemmas.Result.{err_from_is_err_and}
pub use Rattle.std.specs.Global.{Vec}
pub use Rattle.std.specs.List.{AllByRecursion, flat_map}
pub use Rattle.std.specs.Option.{option_or}
pub use Rattle.std.specs.Ordering.{int_cmp, int_eq}
pub use Rattle.std.specs.Prelude.{IfOk}
pub use Rattle.std.specs.Result.{IsErr}
pub use Rattle.std.specs.Vec.{with_item}
pub use Rattle.store.proofs.Moved.{moves_none, nothing_then}
pub use Rattle.store.proofs.Sorted.{filter-sort}
pub use Rattle.store.proofs.Steps.{chunk_total}
pub use Rattle.store.specs.Content.{IsContentOf, content_bytes}
pub use Rattle.store.specs.Normal.{Remains, arranged, chunk_cmp, is_of_staged, normal, placeless, settled}
pub use Rattle.store.specs.Shown.{AddsAny, AddsNothing, Begins, Changes, FailsAny, Finds, HasTables, IsHonest, IsOpen, Leaves, Makes, Moves, Puts, PutsOr, Reads, shown}
pub use Rattle.store.specs.declared.content.ChunkContent.{ChunkContent}
pub use Rattle.store.specs.declared.state.State.{Ghosts}
pub use Rattle.tables.specs.Discarding.{without_discarded}
unfoldable pub use Rattle.tables.specs.Discarding.{after_discard, recounted}
pub use Rattle.tables.specs.Retiring.{without_found_object}
unfoldable pub use Rattle.tables.specs.Retiring.{after_retire, without_object}
pub use Rattle.tables.specs.Rows.{Chunk, Lock, Tables, Token, Upload}
pub use Rattle.tables.specs.Staging.{IsAbove, IsBegun, after_completion, after_found, asked_chunk, asked_upload, completion_by, completion_of, staged_with, upload_number, with_bytes, without_found, without_found_from}
unfoldable pub use Rattle.tables.specs.Staging.{after_begin, after_complete, with_kept, with_last, with_used, without_staged, without_staged_from, without_staged_in, without_upload}
pub use Rattle.tables.specs.Statements.{is_chunk, is_object, is_of, is_of_from, is_staged, is_staged_in, is_staged_with, is_upload}
unfoldable pub use Rattle.tables.specs.Statements.{with_chunk, with_done, with_lock, with_retired, with_token, with_upload, without_chunks, without_chunks_from, without_expired, without_lock, without_row}
pub use Rattle.tables.specs.Steps.{Outcome, after_outcome, created, has_token, held, outcome_of, used_up}
unfoldable pub use Rattle.tables.specs.Steps.{after_add, after_create, with_made, with_new_lock}
pub use Rattle.tables.specs.declared.fault.StoreFault.{StoreFault}
pub use Rattle.tables.specs.declared.new_rows.LastChunk.{LastChunk}
pub use Rattle.tables.specs.declared.new_rows.NewUpload.{NewUpload}
pub use Rattle.tables.specs.declared.rows.Completion.{Completion}
pub use Rattle.tables.specs.declared.rows.ObjectRow.{ObjectRow}
pub use Rattle.tables.specs.declared.rows.UploadId.{UploadId}
pub use Rattle.tables.specs.declared.rows.UploadRow.{UploadRow}
