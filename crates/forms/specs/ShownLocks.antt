-- Locks as a client sees them, and their JSON.
use Rattle.std.specs.Prelude.{◌≡◌, ℕ, List, [], ◌∷◌, map, Option, codes}
use Rattle.std.specs.List.{AllZip}
use Rattle.serde_json.specs.Data.{Data, object, string}
use Rattle.names.specs.Names.{user_text, path_text}
use Rattle.model.specs.World.{Lock}
use Rattle.model.specs.Answers.{Page}
use Rattle.model.specs.Replies.{members, locks_data, next_member}
use Rattle.forms.specs.declared.page.ShownPage.{ShownPage}
use Rattle.forms.specs.declared.page.SplitPage.{SplitPage}
use Rattle.forms.specs.declared.shown_lock.LockTexts.{LockTexts}
use Rattle.forms.specs.declared.shown_lock.ShownLock.{ShownLock}

-- the shown lock has the values of this lock
pub record IsOf (shown : ShownLock) (l : Lock) : Type 0 where
  pub id : l.id ≡ shown.id
  pub at : l.at ≡ shown.locked_at
  pub owner : l.owner ≡ user_text shown.owner.now
  pub path : l.path ≡ path_text shown.path.now

-- the shown locks have the values of these locks, in this order
abbrev pub AreOf : List ShownLock → List Lock → Type 0
AreOf shown locks = AllZip IsOf shown locks

-- a lock with the shown parts; its repository and its ref are not shown
abbrev pub lock_shown : ShownLock → Lock
lock_shown shown = record {
  repo = [];
  id = shown.id;
  ref = [];
  path = path_text shown.path.now;
  owner = user_text shown.owner.now;
  at = shown.locked_at;
}

-- the JSON of a lock, from its texts
abbrev pub data_of_texts : LockTexts → Data
data_of_texts t = object (members (
    (codes "id", string t.id.now)
    ∷ (codes "locked_at", string t.locked_at.now)
    ∷ (codes "owner", object (members ((codes "name", string t.owner.now) ∷ [])))
    ∷ (codes "path", string t.path.now) ∷ []))

-- a page with the shown locks
abbrev pub page_shown : ShownPage → Page
page_shown shown = record { locks = map lock_shown shown.locks.now; next = shown.next }

-- the body for a page of locks, with the user's own locks and the other ones
abbrev pub split_data : Option ℕ → List Lock → List Lock → Data
split_data next ours theirs = object (next_member next (members (
    (codes "ours", locks_data ours) ∷ (codes "theirs", locks_data theirs) ∷ [])))

-- the body for the shown locks
abbrev pub split_shown : SplitPage → Data
split_shown shown =
    split_data shown.next (map lock_shown shown.ours.now) (map lock_shown shown.theirs.now)
