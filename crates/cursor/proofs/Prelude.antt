-- The names from other modules and crates that the proofs of this crate share.
pub use Rattle.cursor.specs.Owners.{is_other, is_owned}
pub use Rattle.cursor.specs.Paging.{after_row, cursor_or_first, cut, left, next_start, unless_full}
pub use Rattle.cursor.specs.Wanted.{Sees, Test, form_of_filter, is_wanted, wanted_locks}
pub use Rattle.locks.specs.Finding.{lock_seen}
pub use Rattle.model.proofs.Pages.{Rise, locks_rise, page_is_least, rise_from, walks_are_whole}
pub use Rattle.model.specs.Locks.{meets}
pub use Rattle.model.specs.Pages.{IsBelow, IsPage, Leg, walk_locks}
pub use Rattle.model.specs.RepoState.{locks_of}
pub use Rattle.model.specs.World.{IsLock, IsWorld, Lock, World}
pub use Rattle.names.specs.Names.{repo_text, user_text}
pub use Rattle.refinement.specs.Left.{Reads}
pub use Rattle.sqlite_trees.proofs.ListLemmas.{filter-map}
pub use Rattle.std.proofs.Common.{Bool, List, MatchOption, None, Option, Some, [], add-one, ap, append-nil, append_assoc, ap₂, arith, cond, drop, false, filter, get_or, length, length-append, map, nat_le, nat_lt, not, option_map, refl, rules, subst, suc, sym, take, true, zero, ℕ, ◌&&◌, ◌++◌, ◌+◌, ◌-◌, ◌<◌, ◌∙◌, ◌∷◌, ◌≡◌, ◌≤◌}
pub use Rattle.std.proofs.lemmas.List.Elements.{All-from_recursion, filter-append, recursion_from_All}
pub use Rattle.std.proofs.lemmas.List.Kept.{AllPairs-filter}
pub use Rattle.tables.specs.declared.rows.LockRow.{LockRow}
