use Rattle.policy.proofs.Prelude.{◌≡◌, ◌∙◌, sym, true, false, is_count}
use Rattle.policy.specs.Language.{kind_of, test_of}
use Rattle.policy.proofs.Lists.{are_entries-texts}
use Rattle.policy.proofs.tables.are_texts_for.Goals as goal

pub returns-then-is_count : goal.returns-then-is_count
returns-then-is_count c =
    let count : is_count c.args.entries.now ≡ true = sym c.is_count.ensures ∙ c.if-is_count.true in
    rw (are_entries-texts (test_of (kind_of c.args.key)) c.args.entries.now, count) c.all_texts_for.ensures

pub returns-else-is_count : goal.returns-else-is_count
returns-else-is_count c =
    let count : is_count c.args.entries.now ≡ false = sym c.is_count.ensures ∙ c.if-is_count.false in
    rw (are_entries-texts (test_of (kind_of c.args.key)) c.args.entries.now, count) c.if-is_count.false
