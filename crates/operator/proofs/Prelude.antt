-- The names from other modules and crates that the proofs of this crate share.
pub use Rattle.model.proofs.Left.{reports_are_true}
pub use Rattle.model.proofs.Progress.{run_append}
pub use Rattle.model.specs.Bounds.{Bound, bound_after}
pub use Rattle.model.specs.Steps.{Event, IsStep, Run}
pub use Rattle.model.specs.World.{IsWorld, World}
pub use Rattle.names.specs.Names.{repo_text}
pub use Rattle.operator.specs.Escapes.{escape, escaped, is_control, shown}
pub use Rattle.operator.specs.Failing.{IsPlain}
pub use Rattle.operator.specs.Lines.{count_line}
pub use Rattle.operator.specs.Listed.{line}
pub use Rattle.operator.specs.Texts.{text_of}
pub use Rattle.operator.specs.Works.{Work, Works, bound_of_works, keeps, steps_of, takes}
pub use Rattle.operator.specs.declared.faults.TaskFault.{TaskFault}
pub use Rattle.policy.specs.Values.{policy_view}
pub use Rattle.refinement.proofs.Leading.{from_weaker, keeps_still, reads_lead, reads_none, takes_then}
pub use Rattle.refinement.proofs.ReadOnly.{reads_then, reads_weaker}
pub use Rattle.refinement.specs.Left.{From, IsBoundedBy, Keeps, Leads, Reads, Takes}
pub use Rattle.store.specs.declared.state.State.{Ghosts}
pub use Rattle.std.proofs.Common.{Err, List, IfErr, IfOk, MatchResult, Ok, Result, Some, [], ap, append_assoc, arith, false, inl, inr, length, refl, rules, string_bytes, subst, sym, true, ℕ, ◌++◌, ◌∙◌, ◌∷◌, ◌≡◌, ◌≤◌, ◌⊎◌, flat_map, map, take, ap₂, ◌+◌, ◌<◌, get_or}
pub use Rattle.std.proofs.lemmas.Result.{IfOk-weaker, err_from_is_err_and, on_ok_weaker}
pub use Rattle.std.specs.Io.KnownBytes.{Appends}
pub use Rattle.std.specs.Prelude.{OnOk, codes, vec_len, zip, ⊤}
pub use Rattle.tables.specs.declared.rows.UploadRow.{UploadRow}
pub use Rattle.tokens.specs.Pruning.{Prunes}
pub use Rattle.uploads.specs.Removing.{Sweeps}
