use Rattle.std.proofs.Common.{arith, sym}
use Rattle.std.proofs.lemmas.Grind.{common_steps}
use Rattle.names.proofs.Digits.{id_parsed, no_id_first}
use Rattle.names.proofs.numbers.LockId.read.Goals as goal

pub returns-then-not-begins_with_1_to_9 : goal.returns-then-not-begins_with_1_to_9
returns-then-not-begins_with_1_to_9 c =
    sym (no_id_first c.args.text.now (λ first. (let begins = c.begins_with_1_to_9.ensures.1 first in cc)))

pub returns-in_err-ok : goal.returns-in_err-ok
returns-in_err-ok c =
    let first = c.begins_with_1_to_9.ensures.0 c.if-not-begins_with_1_to_9.false in
    let read = id_parsed _ c.args.text.now c.parse.result first c.parse.ensures.value.0 in
    grind (arith, common_steps, read)

pub returns : goal.returns
returns c =
    let first = c.begins_with_1_to_9.ensures.0 c.if-not-begins_with_1_to_9.false in
    let read = id_parsed _ c.args.text.now c.parse.result first c.parse.ensures.value.0 in
    grind (arith, common_steps, read)
