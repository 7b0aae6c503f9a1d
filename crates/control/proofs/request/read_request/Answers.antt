use Rattle.std.proofs.Common.{rules}
use Rattle.control.proofs.Results.{no-words}
use Rattle.control.proofs.request.read_request.Goals as goal

pub returns-in_default-2-clause-none : goal.returns-in_default-2-clause-none
returns-in_default-2-clause-none c =
    no-words c.args.bytes.now c.in-Some.input.now c.in-Some.rest.now c.in-Some.ensures.some (search rules)
