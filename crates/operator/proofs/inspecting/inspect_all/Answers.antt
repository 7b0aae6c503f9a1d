use Rattle.operator.proofs.Prelude.{Err, ⊤, ◌∙◌, ap, inl, inr, err_from_is_err_and, from_weaker, on_ok_weaker, refl, reads_lead, reads_then, subst, sym, IsPlain, vec_len}
use Rattle.operator.proofs.Damaged.{inspected_on, inspected_so, line_printed, on_ok_then, rows_length}
use Rattle.operator.proofs.Failing.{is_output}
use Rattle.operator.proofs.Printed.{none_on, printed_none}
use Rattle.operator.proofs.Sound.{checked_none, inspected_sound}
use Rattle.operator.specs.declared.faults.TaskFault.TheVariants as refusal
use Rattle.tables.specs.declared.fault.StoreFault.TheVariants as store
use Rattle.operator.proofs.inspecting.inspect_all.Goals.{in-More, in-Damaged+in_ok-print-in-Damaged}
use Rattle.operator.proofs.inspecting.inspect_all.Goals as goal

pub steps-init : goal.steps-init
steps-init g c = record {
  world = record { honest = c.begin.ensures.reads.same.was_honest; each = λ honest world h. (c.begin.ensures.reads, c.in_ok-inspection.ensures.none) };
  reads = λ is. c.begin.ensures.reads;
  purpose = c.in_ok-inspection.ensures.purpose;
  silent = record {
    honest = c.begin.ensures.reads.same.was_honest;
    each = λ honest world h zero. (refl, c.in_ok-inspection.inspection.rows.ok.0 ∙ rows_length g.S.State world c.begin.new.store c.in_ok-inspection.inspection.rows.items (c.in_ok-inspection.ensures.all.each honest world h));
  };
  pauses = c.in_ok-inspection.ensures.pauses;
  listed = λ honest ready. c.in_ok-inspection.ensures.rows honest ready;
  checked = λ is ready. checked_none g.S.State c.begin.new.store c.in_ok-inspection.inspection c.in_ok-inspection.ensures.start;
  good = refl;
}

pub returns-in_err-progress-clause-world : goal.returns-in_err-progress-clause-world
returns-in_err-progress-clause-world g c =
    let p = err_from_is_err_and c.from_residual-in_err-progress.result c.from_residual-in_err-progress.ensures.1 in
    inspected_so g.S.State c.args.store.now c.steps.store c.steps.inspection _ c.steps.invariant.world (λ none. rw p.1 (subst IsPlain (sym p.2) tt))

pub returns-in_err-advance-clause-world : goal.returns-in_err-advance-clause-world
returns-in_err-advance-clause-world g c =
    let p = err_from_is_err_and c.from_residual-in_err-advance.result c.from_residual-in_err-advance.ensures.1 in
    inspected_so g.S.State c.args.store.now c.advance.new.store c.advance.new.self _
    (inspected_on g.S.State c.args.store.now c.steps.store c.advance.new.store c.steps.inspection c.advance.new.self c.steps.invariant.world c.advance.ensures.world) (λ none. rw p.1 (subst IsPlain (sym p.2) c.in_err-advance.ensures.err))

pub returns-in_err-advance-clause-reads : goal.returns-in_err-advance-clause-reads
returns-in_err-advance-clause-reads g c is =
    reads_then g.S.State c.args.store.now c.steps.store c.advance.new.store _ _ _ (λ world laws x y. tt) (c.steps.invariant.reads is) (c.advance.ensures.reads (c.steps.invariant.purpose ∙ is))

pub returns-in_err-print-in-Damaged-clause-world : goal.returns-in_err-print-in-Damaged-clause-world
returns-in_err-print-in-Damaged-clause-world g c =
    let p = err_from_is_err_and c.from_residual-in_err-print-in-Damaged.result c.from_residual-in_err-print-in-Damaged.ensures.1 in
    inspected_so g.S.State c.args.store.now c.advance.new.store c.advance.new.self _
    (inspected_on g.S.State c.args.store.now c.steps.store c.advance.new.store c.steps.inspection c.advance.new.self c.steps.invariant.world c.advance.ensures.world)
    (λ none. rw p.1 (is_output _ (p.2 ∙ c.in_err-print-in-Damaged.ensures.err)))

pub returns-in_err-print-in-Damaged-clause-reads : goal.returns-in_err-print-in-Damaged-clause-reads
returns-in_err-print-in-Damaged-clause-reads g c is =
    reads_then g.S.State c.args.store.now c.steps.store c.advance.new.store _ _ _ (λ world laws x y. tt) (c.steps.invariant.reads is) (c.advance.ensures.reads (c.steps.invariant.purpose ∙ is))

pub returns-in-Done-clause-world : goal.returns-in-Done-clause-world
returns-in-Done-clause-world g c =
    inspected_so g.S.State c.args.store.now c.advance.new.store c.advance.new.self _
    (inspected_on g.S.State c.args.store.now c.steps.store c.advance.new.store c.steps.inspection c.advance.new.self c.steps.invariant.world c.advance.ensures.world) c.finish.ensures.err

pub returns-in-Done-clause-reads : goal.returns-in-Done-clause-reads
returns-in-Done-clause-reads g c is =
    reads_then g.S.State c.args.store.now c.steps.store c.advance.new.store _ _ _ (λ world laws x y. tt) (c.steps.invariant.reads is) (c.advance.ensures.reads (c.steps.invariant.purpose ∙ is))

pub steps-preserved : goal.steps-preserved
steps-preserved g c = record {
  world = inspected_on g.S.State c.args.store.now c.steps.store c.advance.new.store c.steps.inspection c.advance.new.self c.steps.invariant.world c.advance.ensures.world;
  reads = λ is. reads_then g.S.State c.args.store.now c.steps.store c.advance.new.store _ _ _ (λ world laws x y. tt) (c.steps.invariant.reads is) (c.advance.ensures.reads (c.steps.invariant.purpose ∙ is));
  purpose = c.advance.ensures.purpose ∙ c.steps.invariant.purpose;
  silent = record {
    honest = λ k. c.steps.invariant.silent.honest (c.advance.ensures.quiet.honest k);
    each = λ honest world h zero.
        let then = c.advance.ensures.quiet.honest honest in
        let before = c.steps.invariant.silent.each then world h (c.advance.ensures.unread zero) in
        let held = (reads_lead g.S.State c.args.store.now c.steps.store _ world (c.steps.invariant.world.each then world h).0 h).holds in
        let quiet = c.in_ok-advance.ensures.quiet.each honest world held in
        let rows = ap vec_len c.advance.ensures.rows ∙ before.1 in
        elim c.match-branch-4.branch [
          | in-More w ↦ (rw w.output-is before.0, rows)
          | in-Damaged+in_ok-print-in-Damaged w ↦
              elim w.in-Damaged.is [ inl is ↦ absurd (rw is at quiet) | inr is ↦ absurd ((rw is at quiet) zero) ]
        ];
  };
  pauses = c.advance.ensures.pauses ∙ c.steps.invariant.pauses;
  listed = λ honest ready. rw c.advance.ensures.rows (c.steps.invariant.listed (c.advance.ensures.world.honest honest) ready);
  checked = λ is ready. c.in_ok-advance.ensures.checked c.steps.invariant.pauses ((c.steps.invariant.reads is).same.ready ready) (c.steps.invariant.checked is ready);
  good =
      elim c.match-branch-4.branch [
        | in-More w ↦ rw w.output-is c.steps.invariant.good
        | in-Damaged+in_ok-print-in-Damaged w ↦ rw w.output-is (w.in_ok-print-in-Damaged.ensures.good ∙ c.steps.invariant.good)
      ];
}

pub returns-clause-world : goal.returns-clause-world
returns-clause-world g c = inspected_so g.S.State {A = ⊤} c.args.store.now c.steps.store c.steps.inspection (Err (refusal.Store store.Refused)) c.steps.invariant.world (λ none. tt)

-- ---- what is written

pub returns-in_err-inspection-clause-printed : goal.returns-in_err-inspection-clause-printed
returns-in_err-inspection-clause-printed g c = printed_none g.S.State _ c.args.store.now c.begin.new.store _ (λ world. none_on _ _ c.from_residual.result c.from_residual.ensures.1) c.begin.ensures.reads

pub returns-in_err-progress-clause-printed : goal.returns-in_err-progress-clause-printed
returns-in_err-progress-clause-printed g c =
    from_weaker g.S.State c.args.store.now c.steps.store _ _ (λ world d. none_on _ _ c.from_residual-in_err-progress.result c.from_residual-in_err-progress.ensures.1) c.steps.invariant.world

pub returns-in_err-advance-clause-printed : goal.returns-in_err-advance-clause-printed
returns-in_err-advance-clause-printed g c = record {
  honest = λ k. c.steps.invariant.silent.honest (c.advance.ensures.quiet.honest k);
  each = λ honest world h. none_on _ _ c.from_residual-in_err-advance.result c.from_residual-in_err-advance.ensures.1;
}

pub returns-in_err-print-in-Damaged-clause-printed : goal.returns-in_err-print-in-Damaged-clause-printed
returns-in_err-print-in-Damaged-clause-printed g c = record {
  honest = λ k. c.steps.invariant.silent.honest (c.advance.ensures.quiet.honest k);
  each = λ honest world h. none_on _ _ c.from_residual-in_err-print-in-Damaged.result c.from_residual-in_err-print-in-Damaged.ensures.1;
}

pub returns-in-Done-clause-printed : goal.returns-in-Done-clause-printed
returns-in-Done-clause-printed g c = record {
  honest = λ k. c.steps.invariant.silent.honest (c.advance.ensures.quiet.honest k);
  each = λ honest world h.
      on_ok_then c.finish.result _ _ c.finish.ensures.read (λ zero.
      let then = c.advance.ensures.quiet.honest honest in
      let silent = c.steps.invariant.silent.each then world h (c.advance.ensures.unread zero) in
      let none = (inspected_on g.S.State c.args.store.now c.steps.store c.advance.new.store c.steps.inspection c.advance.new.self c.steps.invariant.world c.advance.ensures.world).each honest world h in
      line_printed (g.K.Sink.taken c.args.output.now) (g.K.Sink.taken c.steps.output) (g.K.Sink.taken c.finish.new.output) _ _ _ _ _ c.finish.result silent.0 (c.advance.ensures.purpose ∙ c.steps.invariant.purpose)
      (ap vec_len c.advance.ensures.rows ∙ silent.1) none.1 c.finish.ensures.text);
}

pub returns-clause-printed : goal.returns-clause-printed
returns-clause-printed g c = from_weaker g.S.State c.args.store.now c.steps.store _ _ (λ world d. tt) c.steps.invariant.world

-- ---- what is said of the tables

pub returns-in-Done-clause-sound : goal.returns-in-Done-clause-sound
returns-in-Done-clause-sound g c =
    on_ok_then c.finish.result _ _ c.finish.ensures.read (λ zero.
    on_ok_weaker c.finish.result
    (λ none is ready.
    let before = c.steps.invariant.reads is in
    let reads = reads_then g.S.State c.args.store.now c.steps.store c.advance.new.store _ _ (λ _. ⊤) (λ world laws x y. tt) before (c.advance.ensures.reads (c.steps.invariant.purpose ∙ is)) in
    inspected_sound g.S.State c.args.store.now c.advance.new.store c.advance.new.self reads.same
    (c.in_ok-advance.ensures.checked c.steps.invariant.pauses (before.same.ready ready) (c.steps.invariant.checked is ready)) (rw c.in-Done.is at c.in_ok-advance.ensures.done)
    (none (c.advance.ensures.purpose ∙ c.steps.invariant.purpose ∙ is)) zero
    (λ honest had. rw c.advance.ensures.rows (c.steps.invariant.listed (c.advance.ensures.world.honest honest) had)) ready)
    c.finish.ensures.none)
