-- The names that the proofs of this crate use most.
pub use Rattle.locks.specs.Finding.{lock_on, lock_seen, lock_with}
pub use Rattle.model.specs.Bounds.{changed, failed, unchanged}
pub use Rattle.model.specs.RepoState.{locks_of}
pub use Rattle.model.specs.World.{IsWorld, Lock, World, with_lock}
pub use Rattle.names.specs.Names.{path_text, ref_text, repo_text, user_text}
pub use Rattle.refinement.proofs.Leading.{ends_failed, ends_made, ends_still, leads_none}
pub use Rattle.refinement.proofs.Lookups.{found_own, lock_found, number_found}
pub use Rattle.refinement.specs.Representation.{Holds, Represents, lock_kept, lock_row}
pub use Rattle.store.specs.declared.state.State.{Ghosts}
pub use Rattle.std.proofs.Common.{Bool, Err, IfSome, List, None, Ok, Option, Result, Some, [], ap, ap₂, arith, false, filter, find, is_some, length, map, nat_le, nat_lt, option_map, pos, refl, subst, suc, sym, take, true, zero, ℕ, ◌+◌, ◌<◌, ◌∙◌, ◌∷◌, ◌≡◌}
pub use Rattle.std.proofs.lemmas.Result.{IfOk-weaker, err_from_is_err_and}
pub use Rattle.tables.specs.Rows.{Tables}
pub use Rattle.store.specs.Shown.{Fails, IsHonest, IsOpen, Makes, Moves, shown}
pub use Rattle.tables.specs.Statements.{by_id, has_id, is_at, is_from, is_in, without_lock}
pub use Rattle.tables.specs.Steps.{AreLocksOf, IsLockOf, LockFields, Outcome, after_outcome, asked_lock, created, held, lock_fields, made_of, outcome_of, read_creation, read_lock, used_up, with_new_lock}
pub use Rattle.tables.specs.declared.fault.StoreFault.{StoreFault}
pub use Rattle.tables.specs.declared.rows.LockRow.{LockRow}
