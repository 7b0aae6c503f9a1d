use Rattle.stops.proofs.Prelude.{[], ◌∷◌, bound_of_works, steps_of}
use Rattle.stops.proofs.Reached.{reached_then, works_reached, reached_held, works_leave_one}
use Rattle.stops.proofs.laws.reopening_law.Goals as goal

pub returns : goal.returns
returns g c = record {
  stop = λ world clean at done image may. c.stop_law.ensures (bound_of_works world done.works (world ∷ [])) clean (done.leads.left (world ∷ []) at.left) image may;
  last = works_leave_one;
  held = λ world reached honest at worked.
      let w = worked.each honest world at.holds in
      (w.kept, reached_then world w.kept (steps_of w.works) reached w.run, w.leads.holds);
  reached = λ world reached clean at done image may.
      let bound = bound_of_works world done.works (world ∷ []) in
      reached_held image bound (works_reached world done.kept done.works (world ∷ []) reached (reached, tt) done.run)
      (c.stop_law.ensures bound clean (done.leads.left (world ∷ []) at.left) image may);
}
