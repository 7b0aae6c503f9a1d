use Rattle.cursor.proofs.Prelude.{rules, repo_text, wanted_locks, cursor_or_first}
use Rattle.cursor.proofs.Joined.{one_window_more}
use Rattle.cursor.proofs.Read.{reads_then}
use Rattle.cursor.proofs.windows.page.Goals as goal

pub loop-next-preserved : goal.loop-next-preserved
loop-next-preserved g c =
    let repo = repo_text c.args.repo.now in
    reads_then g.S.State c.args.store.now c.loop-next.store c.read_window.new.store _ _ _
    (λ world laws before one sees answers.
    one_window_more repo c.args.limit c.loop-next.found.items c.in_ok-window.window.locks.items c.append.new.self.items c.as_slice.result.now
    (wanted_locks repo world c.args.wanted.now sees) c.loop-next.next c.in_ok-window.window.next c.unless_full-next.result c.in-Some.start (cursor_or_first c.args.cursor)
    c.in-Some.is (before sees answers) (one sees answers) c.in_ok-append.ensures.items c.as_slice.ensures.value c.unless_full-next.ensures)
    c.loop-next.invariant c.in_ok-window.ensures.world

pub returns-in_err-append : goal.returns-in_err-append
returns-in_err-append g c =
    reads_then g.S.State c.args.store.now c.loop-next.store c.read_window.new.store _ _ _
    (λ world laws before one sees answers. search rules) c.loop-next.invariant c.in_ok-window.ensures.world

pub returns-in_err-window : goal.returns-in_err-window
returns-in_err-window g c =
    reads_then g.S.State c.args.store.now c.loop-next.store c.read_window.new.store _ _ _
    (λ world laws before one sees answers. search rules) c.loop-next.invariant c.read_window.ensures.world
