use Rattle.std.proofs.Common.{rules, arith, ◌≡◌, ◌++◌, List, ℕ, length, map, flat_map, string_bytes, String, Global, subst, sym}
use Rattle.std.proofs.lemmas.List.{length-map}
use Rattle.control.specs.Fields.{field}
use Rattle.control.proofs.Words.{all-texts, no-more, no-text, words-read, words-whole}
use Rattle.control.proofs.request.read_words.Goals as goal

pub returns-then-len-eq-MOST_WORDS-clause-none : goal.returns-then-len-eq-MOST_WORDS-clause-none
returns-then-len-eq-MOST_WORDS-clause-none c words are =
    let before : List (List ℕ) = map string_bytes c.loop-rest.words.items in
    let count : length before ≡ length c.loop-rest.words.items = length-map c.loop-rest.words.items string_bytes in
    no-more c.args.bytes.now before words c.loop-rest.rest.now c.requires c.loop-rest.invariant.1 (omega arith) (search rules) are

pub returns-in_default-clause-none : goal.returns-in_default-clause-none
returns-in_default-clause-none c words are =
    no-text c.args.bytes.now (map string_bytes c.loop-rest.words.items) words c.loop-rest.rest.now c.requires c.loop-rest.invariant.1 (search rules) c.in_default.ensures.none are

pub loop-rest-preserved : goal.loop-rest-preserved
loop-rest-preserved c =
    let next = words-read c.args.bytes.now c.in-Some.word.now c.loop-rest.rest.now c.in-Some.after.now c.loop-rest.words.items c.in_ok-from_str.field-0 c.loop-rest.invariant.1 c.in-Some.ensures.some c.in_ok-from_str.ensures.ok in
    (search rules, subst (λ (l : List (String Global)). c.args.bytes.now ≡ flat_map field (map string_bytes l) ++ c.in-Some.after.now) (sym c.in_ok-push.ensures.items) next)

pub returns-clause-some : goal.returns-clause-some
returns-clause-some c =
    let count : length (map string_bytes c.loop-rest.words.items) ≡ length c.loop-rest.words.items = length-map c.loop-rest.words.items string_bytes in
    record { few = omega arith; texts = all-texts c.loop-rest.words.items; is = words-whole c.args.bytes.now (map string_bytes c.loop-rest.words.items) c.loop-rest.rest.now c.loop-rest.invariant.1 (search rules) }
