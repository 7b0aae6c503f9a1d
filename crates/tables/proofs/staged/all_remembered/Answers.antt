use Rattle.tables.proofs.Prelude.{sym, ap, rules, ◌∙◌, repo_text, show_upload, remembered_in}
use Rattle.tables.proofs.Entries.{last_more, none_known}
use Rattle.tables.proofs.staged.all_remembered.Goals as goal

pub loop-row-preserved : goal.loop-row-preserved
loop-row-preserved c uploads all =
    let entry = c.in_ok-entry.entry in
    let none = sym (ap (λ l. remembered_in l (repo_text entry.repo)) c.as_slice.ensures.value) ∙ sym c.remembered_in.ensures ∙ none_known c.remembered_in.result (sym c.is_some.ensures ∙ c.if-is_some.false) in
    last_more show_upload c.args.rows.now uploads c.loop-row.row-index c.row-item.result entry c.loop-row.known.items c.push.new.self.items all c.loop-row-test.true c.row-item.is c.in_ok-entry.ensures none
    (c.loop-row.invariant uploads all) (search rules)
