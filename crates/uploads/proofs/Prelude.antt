-- The names from other modules and crates that the proofs of this crate share.
pub use Rattle.model.specs.World.{IsObject, IsWorld, Object, World, name_of, object_named, with_object}
pub use Rattle.names.specs.Names.{repo_text}
pub use Rattle.names.specs.Texts.{largest_object}
pub use Rattle.refinement.proofs.Leading.{ends_failed_or, ends_made, ends_reported, from_weaker, holds_made, keeps_failed, keeps_still, keeps_then, leads_none, leads_still}
pub use Rattle.refinement.proofs.Same.{same_pos}
pub use Rattle.refinement.specs.Left.{From, IsAmong, IsBoundedBy, Keeps, Reads}
pub use Rattle.refinement.specs.Objects.{DiffersInRepo, HasSize, IsStored, bytes_of, object_in, pieces_of}
pub use Rattle.refinement.specs.Representation.{Holds, Represents}
pub use Rattle.sqlite_trees.proofs.ListLemmas.{IsPermutation-filter, all-filter, filter-map, filter_all, filter_none}
pub use Rattle.store.specs.declared.state.State.{Ghosts}
pub use Rattle.std.proofs.Common.{AllPairs, Bool, Equal, Err, Greater, IsPermutation, Less, List, None, Ok, OnErr, OnOk, Option, Ordering, Result, Some, [], add_comm, ap, arith, bytes_eq, cond, drop, false, filter, find, inl, inr, is_gt, is_some, length, map, nat_le, not, option_map, pos, refl, rules, subst, sum_by, sym, true, ℕ, ℤ, ◌&&◌, ◌++◌, ◌+◌, ◌/◌, ◌∙◌, ◌∷◌, ◌≡◌, ◌≤◌, ◌⊎◌}
pub use Rattle.std.proofs.lemmas.Result.{IfOk-weaker, err_from_is_err_and}
pub use Rattle.std.specs.Bool.{⊤}
pub use Rattle.std.specs.List.{AllByRecursion, AllZip, concat}
pub use Rattle.tables.specs.Rows.{Chunk, Tables, Upload}
pub use Rattle.store.specs.Shown.{Fails, HasTables, IsHonest, IsOpen, Makes, Moves, Puts, shown}
pub use Rattle.tables.specs.Staging.{AreUploadsOf, IsObjectOf, Sized, UploadFields, after_complete, completion_by, completion_of, objects_of, read_object, read_upload, staged_with, upload_fields, upload_number, upload_sized, without_found_from, without_staged}
pub use Rattle.tables.specs.Statements.{by_name, is_complete, is_object_in, is_staged, name_cmp}
pub use Rattle.tables.specs.declared.fault.StoreFault.{StoreFault}
pub use Rattle.tables.specs.declared.rows.ObjectRow.{ObjectRow}
pub use Rattle.tables.specs.declared.rows.UploadId.{UploadId}
pub use Rattle.tables.specs.declared.rows.UploadRow.{UploadRow}
pub use Rattle.uploads.specs.Listing.{IsNotAfter, IsRowOf, Lists, is_listed}
pub use Rattle.uploads.specs.Removing.{HasStaged, Shortens, Sweeps}
