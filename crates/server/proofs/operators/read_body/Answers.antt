use Rattle.std.proofs.Common.{◌≡◌, ◌++◌, [], ◌∷◌, ℕ, List, length, drop, take, subst, rules}
use Rattle.std.proofs.Math.Seq.{take-append_seam}
use Rattle.std.proofs.lemmas.Result.{err_from_is_err_and}
use Rattle.machine.specs.Observations.{received}
use Rattle.server.specs.Jobs.{idles, observes}
use Rattle.server.proofs.Jobs.{calls_append, one_seen, one_idle}
use Rattle.server.proofs.operators.read_body.Goals as goal

-- the bytes that were received in place of as many others
filled : (new old : List ℕ) (size : ℕ) → length new ≡ size → take size (new ++ drop (length new) old) ≡ new
filled new old size same = subst (λ (n : ℕ). take n (new ++ drop (length new) old) ≡ new) same (take-append_seam new (drop (length new) old))

pub returns-in_err-receive-clause-err : goal.returns-in_err-receive-clause-err
returns-in_err-receive-clause-err g c =
    let p = err_from_is_err_and c.from_residual.result c.from_residual.ensures.1 in
    rw p.1 (idles ∷ [], one_idle g.M.Machine c.args.machine.now c.receive.new.self c.in_err-receive.ensures.err, tt)

pub returns-in-Err-OtherVersion-clause-err : goal.returns-in-Err-OtherVersion-clause-err
returns-in-Err-OtherVersion-clause-err g c = (observes (received c.args.stream.now c.receive.new.piece) ∷ c.refuse_version.ensures.0, (c.receive.new.self, c.in_ok-receive.ensures.ok, c.refuse_version.ensures.1), c.refuse_version.ensures.2)

pub returns-in-Err-TooLong-clause-err : goal.returns-in-Err-TooLong-clause-err
returns-in-Err-TooLong-clause-err g c = (observes (received c.args.stream.now c.receive.new.piece) ∷ [], one_seen g.M.Machine c.args.machine.now c.receive.new.self (received c.args.stream.now c.receive.new.piece) c.in_ok-receive.ensures.ok, tt)

pub returns-in_err-body-clause-err : goal.returns-in_err-body-clause-err
returns-in_err-body-clause-err g c =
    let p = err_from_is_err_and c.from_residual-in_err-body.result c.from_residual-in_err-body.ensures.1 in
    rw p.1 (observes (received c.args.stream.now c.receive.new.piece) ∷ [], one_seen g.M.Machine c.args.machine.now c.receive.new.self (received c.args.stream.now c.receive.new.piece) c.in_ok-receive.ensures.ok, tt)

pub returns-in_err-receive-2-clause-err : goal.returns-in_err-receive-2-clause-err
returns-in_err-receive-2-clause-err g c =
    let p = err_from_is_err_and c.from_residual-in_err-receive-2.result c.from_residual-in_err-receive-2.ensures.1 in
    rw p.1 (
      observes (received c.args.stream.now c.receive.new.piece) ∷ idles ∷ [],
      calls_append g.M.Machine c.args.machine.now c.receive.new.self c.receive-2.new.self (observes (received c.args.stream.now c.receive.new.piece) ∷ []) (idles ∷ [])
          (one_seen g.M.Machine c.args.machine.now c.receive.new.self (received c.args.stream.now c.receive.new.piece) c.in_ok-receive.ensures.ok)
          (one_idle g.M.Machine c.receive.new.self c.receive-2.new.self c.in_err-receive-2.ensures.err),
      tt,
    )

pub returns-clause-ok : goal.returns-clause-ok
returns-clause-ok g c =
    let body = c.receive-2.new.piece in
    let same : length body ≡ c.in_ok-body.body.len = search rules in
    rw (filled body c.in_ok-body.body.items c.in_ok-body.body.len same) (
      observes (received c.args.stream.now c.receive.new.piece) ∷ observes (received c.args.stream.now body) ∷ [],
      calls_append g.M.Machine c.args.machine.now c.receive.new.self c.receive-2.new.self (observes (received c.args.stream.now c.receive.new.piece) ∷ []) (observes (received c.args.stream.now body) ∷ [])
          (one_seen g.M.Machine c.args.machine.now c.receive.new.self (received c.args.stream.now c.receive.new.piece) c.in_ok-receive.ensures.ok)
          (one_seen g.M.Machine c.receive.new.self c.receive-2.new.self (received c.args.stream.now body) c.in_ok-receive-2.ensures.ok),
      search rules,
    )
