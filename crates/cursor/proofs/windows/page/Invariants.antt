use Rattle.cursor.proofs.Prelude.{repo_text, Reads, Sees, Test, wanted_locks, cursor_or_first}
use Rattle.cursor.proofs.Joined.{HasPage}
use Rattle.cursor.proofs.Ending.{ids_left}
use Rattle.cursor.proofs.windows.page.Given as goal

abbrev pub invariant-loop-next : goal.invariant-loop-next
invariant-loop-next g l =
    Reads g.S.State l.fn.store l.store (λ world. (sees : Test) → Sees g.V.Fn l.fn.visible (repo_text l.fn.repo) sees
    → HasPage (repo_text l.fn.repo) l.fn.limit l.found.items (wanted_locks (repo_text l.fn.repo) world l.fn.wanted sees) l.next (cursor_or_first l.fn.cursor))

abbrev pub decreases-loop-next : goal.decreases-loop-next
decreases-loop-next g l = ids_left l.next
