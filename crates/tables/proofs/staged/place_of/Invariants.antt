use Rattle.tables.proofs.Prelude.{◌≡◌, find, take, None, repo_text, is_entry_of}
use Rattle.tables.proofs.staged.place_of.Given as goal

abbrev pub invariant-loop-at : goal.invariant-loop-at
invariant-loop-at l = find (is_entry_of (repo_text l.repo)) (take l.at l.known) ≡ None
