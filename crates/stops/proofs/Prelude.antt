-- The names from other crates that the proofs of this crate share.
pub use Rattle.model.proofs.Left.{all_left, can_make, leaves_one_change, reports_are_true}
pub use Rattle.model.proofs.Progress.{run_append}
pub use Rattle.model.specs.Bounds.{Bound, Ending, IsWithin, SameWorld, bound_after, bound_of_run, changed, ending_of, failed, intended_world, left_by, next_world, unchanged, world_by}
pub use Rattle.model.specs.Steps.{Event, IsStep, Run}
pub use Rattle.model.specs.World.{IsWorld, World, nothing}
pub use Rattle.operator.specs.Works.{Work, bound_of_works, keeps, steps_of, takes}
pub use Rattle.refinement.specs.Left.{IsAmong}
pub use Rattle.std.proofs.Common.{List, [], inl, inr, refl, subst, ℕ, ◌++◌, ◌∷◌, ◌⊎◌}
