use Rattle.stops.proofs.Prelude.{[], ◌∷◌, bound_of_works}
use Rattle.stops.proofs.Reached.{works_reached, reached_beside}
use Rattle.stops.proofs.laws.reopening_law_beside.Goals as goal

pub returns : goal.returns
returns g c = record {
  stop = λ world clean clean_file kept at done image may file may_file.
      c.stop_law.ensures (bound_of_works world done.works (world ∷ [])) clean clean_file kept (done.leads.left (world ∷ []) at.left)
      image may file may_file;
  reached = λ world reached clean clean_file kept at done image may file may_file.
      let bound = bound_of_works world done.works (world ∷ []) in
      reached_beside image file bound (works_reached world done.kept done.works (world ∷ []) reached (reached, tt) done.run)
      (c.stop_law.ensures bound clean clean_file kept (done.leads.left (world ∷ []) at.left) image may file may_file);
}
