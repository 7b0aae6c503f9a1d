-- The names from other modules and crates that the proofs of this crate share.
pub use Rattle.std.proofs.Common.{Bool, List, [], String, ap, append_assoc, drop, map, refl, string_bytes, sym, ℕ, ◌+◌, ◌++◌, ◌||◌, ◌∙◌, ◌∷◌, ◌≡◌, length, cond, true, false}
pub use Rattle.std.proofs.lemmas.List.{append-nil, at_drop_all, drop_more, map-append}
pub use Rattle.std.specs.List.{list_any}
