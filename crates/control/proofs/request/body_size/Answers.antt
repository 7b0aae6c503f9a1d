use Rattle.std.proofs.Common.{arith, ◌≡◌, ◌∙◌, ap, length, map, take, get_or, flat_map, string_bytes, length-append}
use Rattle.control.specs.Fields.{field}
use Rattle.control.proofs.Words.{words-within}
use Rattle.control.proofs.request.body_size.Goals as goal

pub returns-in_err-size-2-clause-none : goal.returns-in_err-size-2-clause-none
returns-in_err-size-2-clause-none c =
    let i = c.loop-word.word-index in
    let within = words-within c.args.words.now i c.word-item.result c.loop-word-test.true in
    let all = length-append (field c.args.input.now) (flat_map field (map string_bytes c.args.words.now)) in
    let some = length-append (field c.args.input.now) (flat_map field (map string_bytes (take i c.args.words.now))) in
    let word : c.as_bytes.result.now ≡ string_bytes (get_or c.args.words.now i c.word-item.result) = c.as_bytes.ensures.value ∙ ap string_bytes c.word-item.is in
    let size : length (field c.as_bytes.result.now) ≡ length (field (string_bytes (get_or c.args.words.now i c.word-item.result))) = ap (λ l. length (field l)) word in
    rw c.from_residual-in_err-size-2.ensures (omega (arith, within, all, some, size, c.in_err-size-2.ensures.none, c.loop-word.invariant.0))
