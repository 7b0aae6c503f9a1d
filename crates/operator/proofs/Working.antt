-- Calls that lead a store by the steps of a run, one after another; for proofs in other crates too.
use Rattle.operator.proofs.Prelude.{⊤, ◌≡◌, inl, inr, List, [], ◌∷◌, ◌++◌, Result, Ok, Err, refl, sym, ap, subst, World, Event, Run, Bound, bound_after, reports_are_true, run_append, IsBoundedBy, Leads, Keeps, Takes, From, from_weaker, Work, takes, keeps, steps_of, bound_of_works, Works, Ghosts, TaskFault}
use Rattle.operator.specs.declared.tasks.Task.{Task}
use Rattle.operator.specs.declared.tasks.Task.TheVariants.{Issue, Prune, May, CheckPush, Foresee, ListLocks, ListObjects, ListTokens, Usage, CheckObjects, Repair, Sweep, Retire}
use Rattle.operator.specs.Failing.{Attempts}
use Rattle.operator.specs.Tasks.{Does, FailsAs, HasDone, HasEnded, IsStepOf, Ran, WorksAs}

-- the steps of the calls, and of more calls
pub steps_append : (before after : List Work) → steps_of (before ++ after) ≡ steps_of before ++ steps_of after
steps_append [] after = refl
steps_append (takes event ∷ before) after = ap (λ (l : List Event). event ∷ l) (steps_append before after)
steps_append (keeps ∷ before) after = steps_append before after

-- what a stop leaves after the calls, and after more calls from the world to which they led
bound_append : (world mid : World) (before after : List Work) (bound : Bound) → Run world (steps_of before) mid
    → bound_of_works world (before ++ after) bound ≡ bound_of_works mid after (bound_of_works world before bound)
bound_append world mid [] after bound run = ap (λ (w : World). bound_of_works w after bound) (sym run)
bound_append world mid (takes event ∷ before) after bound run =
    let so_far = bound_after world event bound in
    subst (λ (w : World). bound_of_works w (before ++ after) so_far ≡ bound_of_works mid after (bound_of_works w before so_far)) (reports_are_true world event run.0 run.1)
    (bound_append run.0 mid before after so_far run.2)
bound_append world mid (keeps ∷ before) after bound run = bound_append world mid before after (world ∷ bound) run

module _ {S : Type 0} (g : Ghosts S) where
  -- a call that leaves the tables, and what a stop leaves, as they were
  pub works_still : (a b : S) (world : World) → Leads g a b world (λ bound. bound) → Works g a b world
  works_still a b world lead = record { works = []; kept = world; run = refl; leads = record { holds = lead.holds; left = λ bound was. lead.left bound was } }

  -- a call that takes a step
  pub works_takes : (a b : S) (world kept : World) (event : Event) → Takes g a b world event kept → Works g a b world
  works_takes a b world kept event t = record {
    works = takes event ∷ [];
    kept = kept;
    run = (kept, t.step, refl);
    leads = record { holds = t.leads.holds; left = λ bound was. t.leads.left bound was };
  }

  -- a call that keeps the world
  pub works_keeps : (a b : S) (world : World) → Keeps g a b world → Works g a b world
  works_keeps a b world k = record { works = keeps ∷ []; kept = world; run = refl; leads = record { holds = k.holds; left = λ bound was. k.left bound was } }

  -- calls, and more calls from the world to which they led
  pub works_then : (a b c : S) (world : World) (p : Works g a b world) → Works g b c p.kept → Works g a c world
  works_then a b c world p q = record {
    works = p.works ++ q.works;
    kept = q.kept;
    run = subst (λ (events : List Event). Run world events q.kept) (sym (steps_append p.works q.works))
        (run_append world p.kept q.kept (steps_of p.works) (steps_of q.works) p.run q.run);
    leads = record {
      holds = q.leads.holds;
      left = λ bound was. subst (IsBoundedBy g c) (sym (bound_append world p.kept p.works q.works bound p.run))
          (q.leads.left (bound_of_works world p.works bound) (p.leads.left bound was));
    };
  }

  -- the steps of those, one after another
  pub steps_then : (a b c : S) (world : World) (p : Works g a b world) (q : Works g b c p.kept) → steps_of (works_then a b c world p q).works ≡ steps_of p.works ++ steps_of q.works
  unfolding works_then
  steps_then a b c world p q = steps_append p.works q.works

  -- the world to which those led
  pub then_kept : (a b c : S) (world : World) (p : Works g a b world) (q : Works g b c p.kept) → (works_then a b c world p q).kept ≡ q.kept
  unfolding works_then
  then_kept a b c world p q = refl

  pub still_kept : (a b : S) (world : World) (lead : Leads g a b world (λ bound. bound)) → (works_still a b world lead).kept ≡ world
  unfolding works_still
  still_kept a b world lead = refl

  -- calls that took no step
  pub still_steps : (a b : S) (world : World) (lead : Leads g a b world (λ bound. bound)) → steps_of (works_still a b world lead).works ≡ []
  unfolding works_still
  still_steps a b world lead = refl

  pub keeps_steps : (a b : S) (world : World) (k : Keeps g a b world) → steps_of (works_keeps a b world k).works ≡ []
  unfolding works_keeps
  keeps_steps a b world k = refl

  -- ---- a task

  as_still : (IsEnd : List Event → World → Type 0) (a b : S) (world : World) → Leads g a b world (λ bound. bound) → IsEnd [] world → (done : Works g a b world) × IsEnd (steps_of done.works) done.kept
  unfolding works_still
  as_still IsEnd a b world lead end = (works_still a b world lead, end)

  as_keeps : (IsEnd : List Event → World → Type 0) (a b : S) (world : World) → Keeps g a b world → IsEnd [] world → (done : Works g a b world) × IsEnd (steps_of done.works) done.kept
  unfolding works_keeps
  as_keeps IsEnd a b world k end = (works_keeps a b world k, end)

  as_takes : (IsEnd : List Event → World → Type 0) (a b : S) (world kept : World) (event : Event) → Takes g a b world event kept → IsEnd (event ∷ []) kept → (done : Works g a b world) × IsEnd (steps_of done.works) done.kept
  unfolding works_takes
  as_takes IsEnd a b world kept event t end = (works_takes a b world kept event t, end)

  -- a task that failed takes its own step, or none
  fails_as : (a b : S) (world : World) (task : Task) (fault : TaskFault) → FailsAs g a b world task fault → (done : Works g a b world) × HasEnded world task (steps_of done.works) done.kept (Err fault)
  fails_as a b world task fault f = at f.0.attempts
    where
      IsEnd : List Event → World → Type 0
      IsEnd steps kept = HasEnded world task steps kept (Err fault)

      at : Attempts g (IsStepOf task) a b world f.0.kept → (done : Works g a b world) × HasEnded world task (steps_of done.works) done.kept (Err fault)
      at (inl kept) = as_keeps IsEnd a b world kept.0 (inl refl, inl refl, f.1)
      at (inr (event, own, t)) = as_takes IsEnd a b world f.0.kept event t (inr (event, own, refl), f.0.same, f.1)

  -- a task that was done takes its own step, or none
  does_as : (a b : S) (task : Task) (world : World) → Does g a b world task → (done : Works g a b world) × HasDone world task (steps_of done.works)
  does_as a b (Issue policy asked) world d = as_takes (λ steps kept. HasDone world (Issue policy asked) steps) a b world _ _ d.1.takes (d.1.token, d.1.verdict, refl)
  does_as a b (Prune now) world d = as_takes (λ steps kept. HasDone world (Prune now) steps) a b world _ _ d.1 (d.0, refl)
  does_as a b Sweep world d = as_keeps (λ steps kept. HasDone world Sweep steps) a b world d.1.0 refl
  does_as a b (Retire repo oid) world d = as_takes (λ steps kept. HasDone world (Retire repo oid) steps) a b world _ _ d.2 (d.0, d.1, refl)
  does_as a b (May asked) world d = as_still (λ steps kept. HasDone world (May asked) steps) a b world d.0 (d.1, refl)
  does_as a b (CheckPush push) world d = as_still (λ steps kept. HasDone world (CheckPush push) steps) a b world d.0 (d.1, refl)
  does_as a b (Foresee asked) world d = as_still (λ steps kept. HasDone world (Foresee asked) steps) a b world d.0 (d.1, refl)
  does_as a b (ListLocks repo) world d = as_still (λ steps kept. HasDone world (ListLocks repo) steps) a b world d refl
  does_as a b (ListObjects repo) world d = as_still (λ steps kept. HasDone world (ListObjects repo) steps) a b world d refl
  does_as a b (ListTokens repo now) world d = as_still (λ steps kept. HasDone world (ListTokens repo now) steps) a b world d refl
  does_as a b (Usage policy now) world d = as_still (λ steps kept. HasDone world (Usage policy now) steps) a b world d refl
  does_as a b (CheckObjects terminal) world d = as_still (λ steps kept. HasDone world (CheckObjects terminal) steps) a b world d refl
  does_as a b (Repair terminal) world d = as_still (λ steps kept. HasDone world (Repair terminal) steps) a b world d.0 refl

  -- a task, whether it was done or not
  pub from_task : (a b : S) (task : Task) (r : Result ⊤ TaskFault) → From g a b (λ world. Ran g a b world task r) → From g a b (λ world. WorksAs g a b world task r)
  from_task a b task (Ok u) p = from_weaker g a b _ _ (λ world d. let its = does_as a b task world d in record { done = its.0; end = its.1 }) p
  from_task a b task (Err e) p = from_weaker g a b _ _ (λ world f. let its = fails_as a b world task e f in record { done = its.0; end = its.1 }) p
