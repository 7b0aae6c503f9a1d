use Rattle.operator.proofs.Prelude.{⊤, ◌∙◌, refl, reads_then, reads_weaker, rules}
use Rattle.operator.proofs.Damaged.{never_damaged, spares_damaged, spares_read, spares_then, true_then}
use Rattle.operator.proofs.Sound.{checked_more, checked_still}
use Rattle.operator.proofs.inspecting.Inspection.advance.Goals as goal

pub returns-in-Err-Unreadable-clause-world : goal.returns-in-Err-Unreadable-clause-world
returns-in-Err-Unreadable-clause-world g c =
    spares_then g.S.State c.args.store.now c.verdict_on.new.store c.give_up.new.store c.args.self.now c.objects.self _ _
    (spares_read g.S.State c.args.store.now c.objects.store c.verdict_on.new.store _ c.args.self.now c.objects.self c.objects.self c.objects.invariant.world c.verdict_on.ensures.world refl)
    refl c.give_up.ensures.world

pub returns-in-Err-Unreadable-clause-reads : goal.returns-in-Err-Unreadable-clause-reads
returns-in-Err-Unreadable-clause-reads g c is =
    let before = reads_then g.S.State c.args.store.now c.objects.store c.verdict_on.new.store _ _ (λ _. ⊤) (λ world laws x y. tt) c.objects.invariant.reads c.verdict_on.ensures.world in
    reads_then g.S.State c.args.store.now c.verdict_on.new.store c.give_up.new.store _ _ (λ _. ⊤) (λ world laws x y. tt) before (c.give_up.ensures.reads (c.objects.invariant.purpose ∙ is))

pub returns-in-Err-Store-clause-world : goal.returns-in-Err-Store-clause-world
returns-in-Err-Store-clause-world g c =
    spares_read g.S.State c.args.store.now c.objects.store c.verdict_on.new.store _ c.args.self.now c.objects.self _ c.objects.invariant.world c.verdict_on.ensures.world refl

pub returns-in-Err-Store-clause-reads : goal.returns-in-Err-Store-clause-reads
returns-in-Err-Store-clause-reads g c is =
    reads_then g.S.State c.args.store.now c.objects.store c.verdict_on.new.store _ _ _ (λ world laws x y. tt) c.objects.invariant.reads c.verdict_on.ensures.world

pub returns-in_err-line-in-Ok-Some-true-clause-world : goal.returns-in_err-line-in-Ok-Some-true-clause-world
returns-in_err-line-in-Ok-Some-true-clause-world g c =
    spares_damaged g.S.State c.args.store.now c.objects.store c.verdict_on.new.store c.treat.new.store c.args.self.now c.objects.self _ c.objects.invariant.world
    (reads_weaker g.S.State c.objects.store c.verdict_on.new.store _ _ (λ world laws no. rw (c.in-Ok-Some-true.is, c.in-Ok-Some-true.field-0-is, c.in-Ok-Some-true.field-0-0-test) at no) c.verdict_on.ensures.world) c.treat.ensures.honest

pub returns-in_err-line-in-Ok-Some-true-clause-reads : goal.returns-in_err-line-in-Ok-Some-true-clause-reads
returns-in_err-line-in-Ok-Some-true-clause-reads g c is =
    let before = reads_then g.S.State c.args.store.now c.objects.store c.verdict_on.new.store _ _ (λ _. ⊤) (λ world laws x y. tt) c.objects.invariant.reads c.verdict_on.ensures.world in
    reads_then g.S.State c.args.store.now c.verdict_on.new.store c.treat.new.store _ _ (λ _. ⊤) (λ world laws x y. tt) before (c.treat.ensures.reads (c.objects.invariant.purpose ∙ is))

pub returns-in-Ok-Some-true-clause-world : goal.returns-in-Ok-Some-true-clause-world
returns-in-Ok-Some-true-clause-world g c =
    spares_damaged g.S.State c.args.store.now c.objects.store c.verdict_on.new.store c.treat.new.store c.args.self.now c.objects.self _ c.objects.invariant.world
    (reads_weaker g.S.State c.objects.store c.verdict_on.new.store _ _ (λ world laws no. rw (c.in-Ok-Some-true.is, c.in-Ok-Some-true.field-0-is, c.in-Ok-Some-true.field-0-0-test) at no) c.verdict_on.ensures.world) c.treat.ensures.honest

pub returns-in-Ok-Some-true-clause-reads : goal.returns-in-Ok-Some-true-clause-reads
returns-in-Ok-Some-true-clause-reads g c is =
    let before = reads_then g.S.State c.args.store.now c.objects.store c.verdict_on.new.store _ _ (λ _. ⊤) (λ world laws x y. tt) c.objects.invariant.reads c.verdict_on.ensures.world in
    reads_then g.S.State c.args.store.now c.verdict_on.new.store c.treat.new.store _ _ (λ _. ⊤) (λ world laws x y. tt) before (c.treat.ensures.reads (c.objects.invariant.purpose ∙ is))

pub returns-in-Ok-None-clause-world : goal.returns-in-Ok-None-clause-world
returns-in-Ok-None-clause-world g c =
    spares_read g.S.State c.args.store.now c.objects.store c.verdict_on.new.store _ c.args.self.now c.objects.self _ c.objects.invariant.world c.verdict_on.ensures.world refl

pub returns-in-Ok-None-clause-reads : goal.returns-in-Ok-None-clause-reads
returns-in-Ok-None-clause-reads g c is =
    reads_then g.S.State c.args.store.now c.objects.store c.verdict_on.new.store _ _ _ (λ world laws x y. tt) c.objects.invariant.reads c.verdict_on.ensures.world

pub objects-preserved : goal.objects-preserved
objects-preserved g c = record {
  world = spares_read g.S.State c.args.store.now c.objects.store c.verdict_on.new.store _ c.args.self.now c.objects.self _ c.objects.invariant.world c.verdict_on.ensures.world refl;
  reads = reads_then g.S.State c.args.store.now c.objects.store c.verdict_on.new.store _ _ _ (λ world laws x y. tt) c.objects.invariant.reads c.verdict_on.ensures.world;
  purpose = c.objects.invariant.purpose;
  rows = c.objects.invariant.rows;
  pauses = c.objects.invariant.pauses;
  unread = c.objects.invariant.unread;
  checked = λ pauses ready was.
      let now = c.objects.invariant.reads.same.ready ready in
      let said = rw (c.in-Ok-Some-false.is, c.in-Ok-Some-false.field-0-is, c.in-Ok-Some-false.field-0-0-test) at (c.verdict_on.ensures.exact (c.objects.invariant.pauses ∙ pauses)) in
      λ honest opened none read. checked_more g.S.State c.objects.store c.verdict_on.new.store c.objects.self.rows.items c.objects.self.next c.in-Some.row.now c.verdict_on.ensures.world.same now (search rules) (search rules) said
      (λ k o. c.objects.invariant.checked pauses ready was k o none read) honest opened;
}

-- ---- whether an object is reported as damaged

pub returns-in-Err-Unreadable-clause-quiet : goal.returns-in-Err-Unreadable-clause-quiet
returns-in-Err-Unreadable-clause-quiet g c =
    true_then g.S.State c.args.store.now c.verdict_on.new.store c.give_up.new.store c.args.self.now c.objects.self _
    (spares_read g.S.State c.args.store.now c.objects.store c.verdict_on.new.store _ c.args.self.now c.objects.self c.objects.self c.objects.invariant.world c.verdict_on.ensures.world refl)
    c.give_up.ensures.quiet

pub returns-in_err-line-in-Ok-Some-true-clause-quiet : goal.returns-in_err-line-in-Ok-Some-true-clause-quiet
returns-in_err-line-in-Ok-Some-true-clause-quiet g c =
    never_damaged g.S.State c.args.store.now c.objects.store c.verdict_on.new.store c.treat.new.store c.args.self.now c.objects.self _ c.objects.invariant.world
    (reads_weaker g.S.State c.objects.store c.verdict_on.new.store _ _ (λ world laws no. rw (c.in-Ok-Some-true.is, c.in-Ok-Some-true.field-0-is, c.in-Ok-Some-true.field-0-0-test) at no) c.verdict_on.ensures.world) c.treat.ensures.honest

pub returns-in-Ok-Some-true-clause-quiet : goal.returns-in-Ok-Some-true-clause-quiet
returns-in-Ok-Some-true-clause-quiet g c =
    never_damaged g.S.State c.args.store.now c.objects.store c.verdict_on.new.store c.treat.new.store c.args.self.now c.objects.self _ c.objects.invariant.world
    (reads_weaker g.S.State c.objects.store c.verdict_on.new.store _ _ (λ world laws no. rw (c.in-Ok-Some-true.is, c.in-Ok-Some-true.field-0-is, c.in-Ok-Some-true.field-0-0-test) at no) c.verdict_on.ensures.world) c.treat.ensures.honest

pub returns-in-Ok-None-clause-quiet : goal.returns-in-Ok-None-clause-quiet
returns-in-Ok-None-clause-quiet g c = record { honest = λ k. c.objects.invariant.world.honest (c.verdict_on.ensures.world.same.was_honest k); each = λ honest world h. tt }

-- ---- what was gone over

pub returns-then-spent-ge-SLICE-clause-checked : goal.returns-then-spent-ge-SLICE-clause-checked
returns-then-spent-ge-SLICE-clause-checked g c = c.objects.invariant.checked

pub returns-in_default-clause-checked : goal.returns-in_default-clause-checked
returns-in_default-clause-checked g c = c.objects.invariant.checked

pub returns-in-Ok-None-clause-checked : goal.returns-in-Ok-None-clause-checked
returns-in-Ok-None-clause-checked g c pauses ready was honest opened none read =
    checked_still g.S.State c.objects.store c.verdict_on.new.store c.objects.self c.verdict_on.ensures.world.same (c.objects.invariant.reads.same.ready ready) (c.objects.invariant.checked pauses ready was) honest opened none read

pub returns-clause-checked : goal.returns-clause-checked
returns-clause-checked g c = c.objects.invariant.checked
