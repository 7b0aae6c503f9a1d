use Rattle.operator.proofs.Ran.{no_check, ran_checked, ran_reads, ran_repaired, ran_still, ran_sweep}
use Rattle.operator.proofs.Printed.{from_reads, printed_from, printed_plain, printed_reads}
use Rattle.operator.proofs.Prelude.{⊤, on_ok_weaker, refl, reads_none, subst}
use Rattle.operator.specs.Tasks.{IsCheck, IsQuestion}
use Rattle.operator.proofs.tasks.Task.run.Goals as goal

pub returns-in-Issue-clause-world : goal.returns-in-Issue-clause-world
returns-in-Issue-clause-world g c = rw c.in-Issue.is c.grant.ensures.world

pub returns-in-Prune-clause-world : goal.returns-in-Prune-clause-world
returns-in-Prune-clause-world g c = rw c.in-Prune.is c.prune.ensures.world

pub returns-in-Sweep-clause-world : goal.returns-in-Sweep-clause-world
returns-in-Sweep-clause-world g c = rw c.in-Sweep.is (ran_sweep g.S.State _ c.args.store.now c.sweep.new.store c.sweep.result c.sweep.ensures.world)

pub returns-in-Retire-clause-world : goal.returns-in-Retire-clause-world
returns-in-Retire-clause-world g c = rw c.in-Retire.is c.retire.ensures.world

pub returns-in-May-clause-world : goal.returns-in-May-clause-world
returns-in-May-clause-world g c =
    rw c.in-May.is
    (ran_reads g.S.State _ c.args.store.now c.args.store.now _ _ c.print_access.result
    (reads_none g.S.State c.args.store.now _ (λ honest world h. c.print_access.ensures.may)))

pub returns-in-CheckPush-clause-world : goal.returns-in-CheckPush-clause-world
returns-in-CheckPush-clause-world g c = rw c.in-CheckPush.is (ran_reads g.S.State _ c.args.store.now c.check_push.new.store _ _ c.check_push.result c.check_push.ensures.reads)

pub returns-in-Foresee-clause-world : goal.returns-in-Foresee-clause-world
returns-in-Foresee-clause-world g c = rw c.in-Foresee.is (ran_reads g.S.State _ c.args.store.now c.print_foreseen.new.store _ _ c.print_foreseen.result c.print_foreseen.ensures.reads)

pub returns-in-ListLocks-clause-world : goal.returns-in-ListLocks-clause-world
returns-in-ListLocks-clause-world g c = rw c.in-ListLocks.is (ran_still g.S.State _ c.args.store.now c.list_locks.new.store _ c.list_locks.result c.list_locks.ensures.err c.list_locks.ensures.reads)

pub returns-in-ListObjects-clause-world : goal.returns-in-ListObjects-clause-world
returns-in-ListObjects-clause-world g c = rw c.in-ListObjects.is (ran_still g.S.State _ c.args.store.now c.list_objects.new.store _ c.list_objects.result c.list_objects.ensures.err c.list_objects.ensures.reads)

pub returns-in-ListTokens-clause-world : goal.returns-in-ListTokens-clause-world
returns-in-ListTokens-clause-world g c = rw c.in-ListTokens.is (ran_still g.S.State _ c.args.store.now c.list_tokens.new.store _ c.list_tokens.result c.list_tokens.ensures.err c.list_tokens.ensures.reads)

pub returns-in-Usage-clause-world : goal.returns-in-Usage-clause-world
returns-in-Usage-clause-world g c = rw c.in-Usage.is (ran_still g.S.State _ c.args.store.now c.list_usage.new.store _ c.list_usage.result c.list_usage.ensures.err c.list_usage.ensures.reads)

pub returns-in-CheckObjects-clause-world : goal.returns-in-CheckObjects-clause-world
returns-in-CheckObjects-clause-world g c = rw c.in-CheckObjects.is (ran_checked g.S.State _ c.args.store.now c.inspect_all.new.store c.inspect_all.result c.inspect_all.ensures.world)

pub returns-in-Repair-clause-world : goal.returns-in-Repair-clause-world
returns-in-Repair-clause-world g c = rw c.in-Repair.is (ran_repaired g.S.State _ c.args.store.now c.inspect_all-in-Repair.new.store c.inspect_all-in-Repair.result c.inspect_all-in-Repair.ensures.world)

-- ---- the tables

pub returns-in-May-clause-tables : goal.returns-in-May-clause-tables
returns-in-May-clause-tables g c = λ _. (reads_none g.S.State c.args.store.now (λ _. ⊤) (λ _ _ _. tt)).same

pub returns-in-CheckPush-clause-tables : goal.returns-in-CheckPush-clause-tables
returns-in-CheckPush-clause-tables g c = λ _. c.check_push.ensures.reads.same

pub returns-in-Foresee-clause-tables : goal.returns-in-Foresee-clause-tables
returns-in-Foresee-clause-tables g c = λ _. c.print_foreseen.ensures.reads.same

pub returns-in-ListLocks-clause-tables : goal.returns-in-ListLocks-clause-tables
returns-in-ListLocks-clause-tables g c = λ _. c.list_locks.ensures.reads.same

pub returns-in-ListObjects-clause-tables : goal.returns-in-ListObjects-clause-tables
returns-in-ListObjects-clause-tables g c = λ _. c.list_objects.ensures.reads.same

pub returns-in-ListTokens-clause-tables : goal.returns-in-ListTokens-clause-tables
returns-in-ListTokens-clause-tables g c = λ _. c.list_tokens.ensures.reads.same

pub returns-in-Usage-clause-tables : goal.returns-in-Usage-clause-tables
returns-in-Usage-clause-tables g c = λ _. c.list_usage.ensures.reads.same

pub returns-in-Issue-clause-tables : goal.returns-in-Issue-clause-tables
returns-in-Issue-clause-tables g c = λ question. absurd (subst IsQuestion c.in-Issue.is question)

pub returns-in-Prune-clause-tables : goal.returns-in-Prune-clause-tables
returns-in-Prune-clause-tables g c = λ question. absurd (subst IsQuestion c.in-Prune.is question)

pub returns-in-Sweep-clause-tables : goal.returns-in-Sweep-clause-tables
returns-in-Sweep-clause-tables g c = λ question. absurd (subst IsQuestion c.in-Sweep.is question)

pub returns-in-Retire-clause-tables : goal.returns-in-Retire-clause-tables
returns-in-Retire-clause-tables g c = λ question. absurd (subst IsQuestion c.in-Retire.is question)

pub returns-in-CheckObjects-clause-tables : goal.returns-in-CheckObjects-clause-tables
returns-in-CheckObjects-clause-tables g c = λ question. absurd (subst IsQuestion c.in-CheckObjects.is question)

pub returns-in-Repair-clause-tables : goal.returns-in-Repair-clause-tables
returns-in-Repair-clause-tables g c = λ question. absurd (subst IsQuestion c.in-Repair.is question)

-- ---- a check

pub returns-in-Issue-clause-sound : goal.returns-in-Issue-clause-sound
returns-in-Issue-clause-sound g c = no_check c.grant.result _ _ (λ check. subst IsCheck c.in-Issue.is check)

pub returns-in-Prune-clause-sound : goal.returns-in-Prune-clause-sound
returns-in-Prune-clause-sound g c = no_check c.prune.result _ _ (λ check. subst IsCheck c.in-Prune.is check)

pub returns-in-May-clause-sound : goal.returns-in-May-clause-sound
returns-in-May-clause-sound g c = no_check c.print_access.result _ _ (λ check. subst IsCheck c.in-May.is check)

pub returns-in-CheckPush-clause-sound : goal.returns-in-CheckPush-clause-sound
returns-in-CheckPush-clause-sound g c = no_check c.check_push.result _ _ (λ check. subst IsCheck c.in-CheckPush.is check)

pub returns-in-Foresee-clause-sound : goal.returns-in-Foresee-clause-sound
returns-in-Foresee-clause-sound g c = no_check c.print_foreseen.result _ _ (λ check. subst IsCheck c.in-Foresee.is check)

pub returns-in-ListLocks-clause-sound : goal.returns-in-ListLocks-clause-sound
returns-in-ListLocks-clause-sound g c = no_check c.list_locks.result _ _ (λ check. subst IsCheck c.in-ListLocks.is check)

pub returns-in-ListObjects-clause-sound : goal.returns-in-ListObjects-clause-sound
returns-in-ListObjects-clause-sound g c = no_check c.list_objects.result _ _ (λ check. subst IsCheck c.in-ListObjects.is check)

pub returns-in-ListTokens-clause-sound : goal.returns-in-ListTokens-clause-sound
returns-in-ListTokens-clause-sound g c = no_check c.list_tokens.result _ _ (λ check. subst IsCheck c.in-ListTokens.is check)

pub returns-in-Usage-clause-sound : goal.returns-in-Usage-clause-sound
returns-in-Usage-clause-sound g c = no_check c.list_usage.result _ _ (λ check. subst IsCheck c.in-Usage.is check)

pub returns-in-Repair-clause-sound : goal.returns-in-Repair-clause-sound
returns-in-Repair-clause-sound g c = no_check c.inspect_all-in-Repair.result _ _ (λ check. subst IsCheck c.in-Repair.is check)

pub returns-in-Sweep-clause-sound : goal.returns-in-Sweep-clause-sound
returns-in-Sweep-clause-sound g c = no_check c.sweep.result _ _ (λ check. subst IsCheck c.in-Sweep.is check)

pub returns-in-Retire-clause-sound : goal.returns-in-Retire-clause-sound
returns-in-Retire-clause-sound g c = no_check c.retire.result _ _ (λ check. subst IsCheck c.in-Retire.is check)

pub returns-in-CheckObjects-clause-sound : goal.returns-in-CheckObjects-clause-sound
returns-in-CheckObjects-clause-sound g c = on_ok_weaker c.inspect_all.result (λ sound _. sound refl) c.inspect_all.ensures.sound

-- ---- what is written

pub returns-in-Issue-clause-printed : goal.returns-in-Issue-clause-printed
returns-in-Issue-clause-printed g c =
    rw c.in-Issue.is (printed_from g.S.State c.args.store.now c.grant.new.store _ _ _ _ c.grant.result (λ world f. f.1) (λ world taken. taken) c.grant.ensures.world c.grant.ensures.printed)

pub returns-in-Prune-clause-printed : goal.returns-in-Prune-clause-printed
returns-in-Prune-clause-printed g c =
    rw c.in-Prune.is (printed_from g.S.State c.args.store.now c.prune.new.store _ _ _ _ c.prune.result (λ world f. f.1) (λ world taken. (_, refl, taken)) c.prune.ensures.world c.prune.ensures.printed)

pub returns-in-Sweep-clause-printed : goal.returns-in-Sweep-clause-printed
returns-in-Sweep-clause-printed g c =
    rw c.in-Sweep.is (printed_from g.S.State c.args.store.now c.sweep.new.store _ _ _ _ c.sweep.result (λ world f. f.1) (λ world taken. taken) c.sweep.ensures.world c.sweep.ensures.printed)

pub returns-in-Retire-clause-printed : goal.returns-in-Retire-clause-printed
returns-in-Retire-clause-printed g c =
    rw c.in-Retire.is (printed_from g.S.State c.args.store.now c.retire.new.store _ _ _ _ c.retire.result (λ world f. f.1) (λ world taken. (_, refl, taken)) c.retire.ensures.world c.retire.ensures.printed)

pub returns-in-May-clause-printed : goal.returns-in-May-clause-printed
returns-in-May-clause-printed g c =
    rw c.in-May.is
    (printed_reads g.S.State c.args.store.now c.args.store.now _ _ c.print_access.result (λ world taken. (_, refl, taken))
    (reads_none g.S.State c.args.store.now _ (λ honest world h. c.print_access.ensures.text)))

pub returns-in-CheckPush-clause-printed : goal.returns-in-CheckPush-clause-printed
returns-in-CheckPush-clause-printed g c =
    rw c.in-CheckPush.is (printed_reads g.S.State c.args.store.now c.check_push.new.store _ _ c.check_push.result (λ world taken. (_, refl, taken)) c.check_push.ensures.printed)

pub returns-in-Foresee-clause-printed : goal.returns-in-Foresee-clause-printed
returns-in-Foresee-clause-printed g c =
    rw c.in-Foresee.is
    (printed_from g.S.State c.args.store.now c.print_foreseen.new.store _ _ _ _ c.print_foreseen.result (λ world f. f.1) (λ world taken. taken)
    (ran_reads g.S.State (λ event. ⊥) c.args.store.now c.print_foreseen.new.store _ _ c.print_foreseen.result c.print_foreseen.ensures.reads) (from_reads g.S.State _ _ _ c.print_foreseen.ensures.printed))

pub returns-in-ListLocks-clause-printed : goal.returns-in-ListLocks-clause-printed
returns-in-ListLocks-clause-printed g c =
    rw c.in-ListLocks.is (printed_plain g.S.State c.args.store.now c.list_locks.new.store _ _ c.list_locks.result c.list_locks.ensures.err (λ world taken. (_, refl, taken)) c.list_locks.ensures.reads)

pub returns-in-ListObjects-clause-printed : goal.returns-in-ListObjects-clause-printed
returns-in-ListObjects-clause-printed g c =
    rw c.in-ListObjects.is (printed_plain g.S.State c.args.store.now c.list_objects.new.store _ _ c.list_objects.result c.list_objects.ensures.err (λ world taken. (_, refl, taken)) c.list_objects.ensures.reads)

pub returns-in-ListTokens-clause-printed : goal.returns-in-ListTokens-clause-printed
returns-in-ListTokens-clause-printed g c =
    rw c.in-ListTokens.is (printed_plain g.S.State c.args.store.now c.list_tokens.new.store _ _ c.list_tokens.result c.list_tokens.ensures.err (λ world taken. taken) c.list_tokens.ensures.reads)

pub returns-in-Usage-clause-printed : goal.returns-in-Usage-clause-printed
returns-in-Usage-clause-printed g c =
    rw c.in-Usage.is (printed_plain g.S.State c.args.store.now c.list_usage.new.store _ _ c.list_usage.result c.list_usage.ensures.err (λ world taken. taken) c.list_usage.ensures.reads)

pub returns-in-CheckObjects-clause-printed : goal.returns-in-CheckObjects-clause-printed
returns-in-CheckObjects-clause-printed g c =
    rw c.in-CheckObjects.is
    (printed_from g.S.State c.args.store.now c.inspect_all.new.store _ _ _ _ c.inspect_all.result (λ world f. f.1) (λ world taken. (_, refl, taken))
    (ran_checked g.S.State (λ event. ⊥) c.args.store.now c.inspect_all.new.store c.inspect_all.result c.inspect_all.ensures.world) c.inspect_all.ensures.printed)

pub returns-in-Repair-clause-printed : goal.returns-in-Repair-clause-printed
returns-in-Repair-clause-printed g c =
    rw c.in-Repair.is
    (printed_from g.S.State c.args.store.now c.inspect_all-in-Repair.new.store _ _ _ _ c.inspect_all-in-Repair.result (λ world f. f.1) (λ world taken. (_, refl, taken))
    (ran_checked g.S.State (λ event. ⊥) c.args.store.now c.inspect_all-in-Repair.new.store c.inspect_all-in-Repair.result c.inspect_all-in-Repair.ensures.world) c.inspect_all-in-Repair.ensures.printed)
