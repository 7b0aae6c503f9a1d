use Rattle.std.proofs.Common.{rules, arith}
use Rattle.control.proofs.Words.{in-range}
use Rattle.control.proofs.request.request_bytes.Goals as goal

pub returns-in_err-write_request-clause-err : goal.returns-in_err-write_request-clause-err
returns-in_err-write_request-clause-err c =
    let range = in-range c.args.input.now c.args.words.now (omega arith) (omega (arith, c.in-Some.ensures.some, c.in-Some.ensures.within)) in
    search rules

pub returns-clause-range : goal.returns-clause-range
returns-clause-range c = in-range c.args.input.now c.args.words.now (omega arith) (omega (arith, c.in-Some.ensures.some, c.in-Some.ensures.within))
