use Rattle.std.proofs.Common.{arith, ◌≡◌, ◌∙◌, ap, length, get_or, string_bytes}
use Rattle.control.proofs.Words.{words-within}
use Rattle.control.proofs.request.push_words.Goals as goal

pub push_field-requires : goal.push_field-requires
push_field-requires c =
    let i = c.loop-word.word-index in
    let within = words-within c.args.words.now i c.word-item.result c.loop-word-test.true in
    let word : c.as_bytes.result.now ≡ string_bytes (get_or c.args.words.now i c.word-item.result) = c.as_bytes.ensures.value ∙ ap string_bytes c.word-item.is in
    omega (arith, within, ap length word, c.requires)
