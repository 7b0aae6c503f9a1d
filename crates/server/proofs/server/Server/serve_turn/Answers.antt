use Rattle.std.specs.Prelude.{None, Some, Option}
use Rattle.std.proofs.Common.{◌≡◌, refl, [], ◌∷◌, inl, inr, sym, subst}
use Rattle.downloads.specs.declared.download.Download.{Download}
use Rattle.machine.specs.Observations.{closed, talked, timed}
use Rattle.transfers.specs.Transfers.{LeavesRest, owed_in}
use Rattle.transfers.proofs.Told.{left_same}
use Rattle.server.specs.Jobs.{idles, observes, seen_in}
use Rattle.server.proofs.Jobs.{calls_append, one_seen, one_idle, turn_served, turn_unserved}
use Rattle.server.proofs.server.Server.serve_turn.Goals as goal

pub returns-in_err-now-clause-world : goal.returns-in_err-now-clause-world
returns-in_err-now-clause-world g c =
    turn_unserved g.M.Machine g.S.State c.args.state.now.policy c.args.client (owed_in c.args.state.now.tally.transfers) c.args.store.now c.sweep_if-state.new.store c.args.machine.now c.moment.new.self (idles ∷ []) c.sweep_if-state.ensures
    (one_idle g.M.Machine c.args.machine.now c.moment.new.self c.in_err-now.ensures.err) tt

pub returns-in_default-clause-world : goal.returns-in_default-clause-world
returns-in_default-clause-world g c =
    let none = c.in_default.ensures.none in
    let client = c.converse.new.client in
    rw none.0
    (turn_unserved g.M.Machine g.S.State c.args.state.now.policy c.args.client (owed_in c.args.state.now.tally.transfers) c.args.store.now c.sweep_if-state.new.store c.args.machine.now c.close.new.self
    (observes (timed c.in_ok-now.now) ∷ idles ∷ observes (closed client) ∷ []) c.sweep_if-state.ensures
    (calls_append g.M.Machine c.args.machine.now c.moment.new.self c.close.new.self (observes (timed c.in_ok-now.now) ∷ []) (idles ∷ observes (closed client) ∷ [])
    (one_seen g.M.Machine c.args.machine.now c.moment.new.self (timed c.in_ok-now.now) c.in_ok-now.ensures.ok)
    (calls_append g.M.Machine c.moment.new.self c.converse.new.self c.close.new.self (idles ∷ []) (observes (closed client) ∷ [])
    (one_idle g.M.Machine c.moment.new.self c.converse.new.self none.1)
    (one_seen g.M.Machine c.converse.new.self c.close.new.self (closed client) c.close.ensures)))
    (inr (client, c.converse.ensures.number, refl)))

pub returns-in-Some-later-clause-world : goal.returns-in-Some-later-clause-world
returns-in-Some-later-clause-world g c =
    let held = c.in-Some.ensures.some in
    let served = c.in-Some.field-0.turn.served in
    let talks = talked c.args.client held.0 served in
    let left = c.in-Some.field-0.later in
    let kept = c.put_aside.ensures in
    let owed = owed_in c.args.state.now.tally.transfers in
    let owes = owed_in c.put_aside.new.self in
    let left_is : left ≡ Some c.in-Some-later.download = let a = c.in-Some.later-is in let b = c.in-Some-later.is in cc in
    let rest = subst (λ (l : Option Download). LeavesRest c.args.client c.number_of-number.result l owed owes (seen_in kept.0)) (sym left_is)
    (left_same c.args.client c.converse.new.client c.number_of-number.result (Some c.in-Some-later.download) owed owes (seen_in kept.0) c.converse.ensures.number kept.2) in
    turn_served g.M.Machine g.S.State c.args.state.now.policy c.args.client owed owes c.in_ok-now.now c.number_of-number.result held.0 served left (seen_in kept.0) c.args.store.now c.sweep_if-state.new.store c.converse.new.store
    c.args.machine.now c.put_aside.new.machine (observes (timed c.in_ok-now.now) ∷ observes talks ∷ kept.0) c.sweep_if-state.ensures
    (calls_append g.M.Machine c.args.machine.now c.moment.new.self c.put_aside.new.machine (observes (timed c.in_ok-now.now) ∷ []) (observes talks ∷ kept.0)
    (one_seen g.M.Machine c.args.machine.now c.moment.new.self (timed c.in_ok-now.now) c.in_ok-now.ensures.ok)
    (calls_append g.M.Machine c.moment.new.self c.converse.new.self c.put_aside.new.machine (observes talks ∷ []) kept.0
    (one_seen g.M.Machine c.moment.new.self c.converse.new.self talks held.1)
    kept.1))
    refl c.number_of-number.ensures rest held.2

pub returns-clause-world : goal.returns-clause-world
returns-clause-world g c =
    let held = c.in-Some.ensures.some in
    let served = c.in-Some.field-0.turn.served in
    let talks = talked c.args.client held.0 served in
    let left = c.in-Some.field-0.later in
    let owed = owed_in c.args.state.now.tally.transfers in
    let left_is : left ≡ None = let a = c.in-Some.later-is in let b = c.in_default-later.is in cc in
    let rest = subst (λ (l : Option Download). LeavesRest c.args.client c.number_of-number.result l owed owed []) (sym left_is) (refl, refl) in
    turn_served g.M.Machine g.S.State c.args.state.now.policy c.args.client owed owed c.in_ok-now.now c.number_of-number.result held.0 served left [] c.args.store.now c.sweep_if-state.new.store c.converse.new.store
    c.args.machine.now c.end_turn.new.self (observes (timed c.in_ok-now.now) ∷ observes talks ∷ idles ∷ []) c.sweep_if-state.ensures
    (calls_append g.M.Machine c.args.machine.now c.moment.new.self c.end_turn.new.self (observes (timed c.in_ok-now.now) ∷ []) (observes talks ∷ idles ∷ [])
    (one_seen g.M.Machine c.args.machine.now c.moment.new.self (timed c.in_ok-now.now) c.in_ok-now.ensures.ok)
    (calls_append g.M.Machine c.moment.new.self c.converse.new.self c.end_turn.new.self (observes talks ∷ []) (idles ∷ [])
    (one_seen g.M.Machine c.moment.new.self c.converse.new.self talks held.1)
    (one_idle g.M.Machine c.converse.new.self c.end_turn.new.self c.end_turn.ensures)))
    refl c.number_of-number.ensures rest held.2
