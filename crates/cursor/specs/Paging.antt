-- A page, and the windows from which it is put together.
use Rattle.std.specs.Prelude.{ℕ, ◌+◌, nat_lt, nat_le, List, [], map, take, drop, filter, length, slice_get, option_map, Option, Some, None, if◌then◌else◌}
use Rattle.names.specs.Texts.{last_lock_id}
use Rattle.model.specs.Reading.{or_default}
use Rattle.model.specs.Orders.{first}
use Rattle.model.specs.World.{Lock}
use Rattle.model.specs.Answers as answer
use Rattle.tables.specs.declared.rows.LockRow.{LockRow}
use Rattle.locks.specs.Finding.{lock_seen}
use Rattle.cursor.specs.declared.pages.Page.{Page}

-- the page as one of locks of the repository
abbrev pub page_seen : List ℕ → Page → answer.Page
page_seen repo page = record { locks = map (lock_seen repo) page.locks.items; next = page.next }

-- the id at which a page begins: the first id if none is given
abbrev pub cursor_or_first : Option ℕ → ℕ
cursor_or_first cursor = or_default cursor 1

-- the first locks, at most as many as the limit, and the id of the lock after them
abbrev pub cut : ℕ → List Lock → answer.Page
cut limit locks = record {
  locks = take limit locks;
  next = option_map (λ l. l.id) (first (drop limit locks));
}

-- the locks from this id on; none if there is no id
abbrev pub left : List Lock → Option ℕ → List Lock
left locks None = []
left locks (Some start) = filter (λ l. nat_le start l.id) locks

-- the id after this one, if there is one
abbrev pub id_after : ℕ → Option ℕ
id_after id = if nat_lt id last_lock_id then Some (id + 1) else None

-- the id after that of the row, if there is a row
abbrev pub after_row : Option LockRow → Option ℕ
after_row None = None
after_row (Some row) = id_after row.id

-- the id at which the window after this one begins; none if this one has fewer than 64 rows
abbrev pub next_start : List LockRow → Option ℕ
next_start window = after_row (slice_get window 63)

-- the id to read on at; none if more locks are found than a page has
abbrev pub unless_full : ℕ → List LockRow → Option ℕ → Option ℕ
unless_full limit found next = if nat_lt limit (length found) then None else next
