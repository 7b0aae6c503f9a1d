use Rattle.cursor.proofs.Prelude.{◌≡◌, ◌++◌, ◌≤◌, filter, take, drop, length, user_text, is_owned, is_other}
use Rattle.cursor.proofs.splitting.part.Given as goal

abbrev pub invariant-loop-i : goal.invariant-loop-i
invariant-loop-i l =
    (l.rows ≡ filter (is_owned (user_text l.fn.user)) (take l.i l.fn.rows) ++ (filter (is_other (user_text l.fn.user)) (take l.i l.fn.rows) ++ drop l.i l.fn.rows))
    × (l.owned ≡ length (filter (is_owned (user_text l.fn.user)) (take l.i l.fn.rows)))
    × (l.owned ≤ l.i)
