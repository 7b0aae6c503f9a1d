use Rattle.wire.proofs.Prelude.{◌≤◌, subst, arith, length, take_all, MayBecomeRequest}
use Rattle.wire.proofs.Fronts.{bad_for_size, no_head}
use Rattle.wire.proofs.cut.without_head.Goals as goal

pub returns-then-bytes-lt-HEAD_LIMIT : goal.returns-then-bytes-lt-HEAD_LIMIT
returns-then-bytes-lt-HEAD_LIMIT c = λ fields.
    let bytes = c.args.bytes.now in
    let short : length bytes ≤ 16384 = omega arith in
    (no_head bytes c.requires.none, omega arith, subst MayBecomeRequest (take_all 16384 bytes short) c.requires.unfinished)

pub returns-else-bytes-lt-HEAD_LIMIT : goal.returns-else-bytes-lt-HEAD_LIMIT
returns-else-bytes-lt-HEAD_LIMIT c = λ fields. bad_for_size c.args.bytes.now c.requires.none (omega arith)
