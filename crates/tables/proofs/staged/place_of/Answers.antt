use Rattle.tables.proofs.Prelude.{sym, ◌∙◌, repo_text, is_entry_of}
use Rattle.tables.proofs.Entries.{none_more}
use Rattle.tables.proofs.staged.place_of.Goals as goal

pub loop-at-preserved : goal.loop-at-preserved
loop-at-preserved c =
    none_more (is_entry_of (repo_text c.args.repo.now)) c.args.known.now c.loop-at.at c.index-known-at.result c.loop-at-test.true c.index-known-at.is (sym c.is_same.ensures ∙ c.if-is_same.false) c.loop-at.invariant
