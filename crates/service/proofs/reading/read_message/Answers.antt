use Rattle.service.proofs.Prelude.{arith, refl, sym, subst, List, ℕ, BeginsWithHead}
use Rattle.std.proofs.lemmas.List.{length-take, take_rest}
use Rattle.wire.specs.declared.cut.TheConstants.{HEAD_LIMIT}
use Rattle.service.specs.Reading.{no_head}
use Rattle.service.proofs.reading.read_message.Goals as goal

pub slice_bounds-message_of-count : goal.slice_bounds-message_of-count
slice_bounds-message_of-count c =
    omega (arith, c.in-Head.ensures.cut.2.within.section.len_fits, length-take HEAD_LIMIT c.args.bytes.now)

pub slice_bounds-message_of-start : goal.slice_bounds-message_of-start
slice_bounds-message_of-start c =
    omega (arith, c.in-Head.ensures.cut.2.within.section.len_fits, length-take HEAD_LIMIT c.args.bytes.now)

pub returns-in-Head : goal.returns-in-Head
returns-in-Head c =
    let cut = c.in-Head.ensures.cut in
    c.message_of.ensures c.args.bytes.now cut.0 (c.new-head.ensures cut.0 (rw c.front_of.ensures cut.2))
    (subst (λ (rest : List ℕ). BeginsWithHead c.args.bytes.now cut.0 rest) (sym (take_rest c.args.bytes.now c.in-Head.spans.len)) cut.1)

pub returns-in-Bad : goal.returns-in-Bad
returns-in-Bad c = no_head c.in-Bad.ensures.cut refl
