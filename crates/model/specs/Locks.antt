-- The verdicts on locks: Lock, List, Verify locks, Unlock (Git LFS API, File Locking).
use Rattle.std.specs.Prelude.{ℕ, ◌+◌, Bool, ◌&&◌, ◌==◌, nat_lt, List, filter, find, Option, Ok, bytes_eq, if◌then◌else◌}
use Rattle.names.specs.Texts.{last_lock_id}
use Rattle.names.specs.declared.rules.Rule.TheVariants.{L2, L3, L5}
use Rattle.model.specs.declared.Right.TheVariants as right
use Rattle.model.specs.Reading.{◌>>=◌, check, ok_or, none_or, or_default}
use Rattle.model.specs.Policy.{Repo}
use Rattle.model.specs.World.{Lock}
use Rattle.model.specs.RepoState.{RepoState, lock_at}
use Rattle.model.specs.Forms.{LockForm, ListForm, VerifyLocksForm, UnlockForm, is_if_given}
use Rattle.model.specs.Callers.{lock_question, push_question, may_list, sees, is_own}
use Rattle.model.specs.Cases.{Case}
use Rattle.model.specs.Answers.{by_lock, by_rules, permit, may_pull, Answer, makes_lock, lists, splits, releases}
use Rattle.model.specs.Pages.{page_limit, cursor_in, page_of}

-- the ref that is named, or the repository's default
abbrev pub ref_or_default : Option (List ℕ) → Repo → List ℕ
ref_or_default ref repo = or_default ref repo.default_ref

-- ---- Lock

-- the lock that the request makes: the caller's, from now on, with the next id
abbrev pub new_lock : Case → LockForm → Lock
new_lock c asked = record {
  repo = c.repo.name;
  id = c.state.made + 1;
  ref = ref_or_default asked.ref c.repo;
  path = asked.path;
  owner = c.caller.user;
  at = c.setting.now;
}

-- L1 if there is a lock on the path, L5 if no id is left, and else the lock is made
abbrev pub place_verdict : RepoState → Lock → Answer
place_verdict state l = do
  free ← none_or (lock_at l.ref l.path state) by_lock
  room ← by_rules (check (nat_lt state.made last_lock_id) L5)
  Ok (makes_lock l)

-- the verdict on a request for a lock
abbrev pub lock_verdict : Case → LockForm → Answer
lock_verdict c asked = do
  may ← permit c.setting.policy (lock_question right.Lock c.caller.user (new_lock c asked)) 403
  place_verdict c.state (new_lock c asked)

-- ---- List

-- the lock meets all the filters that are given
abbrev pub meets : ListForm → Lock → Bool
meets asked l =
    is_if_given (λ path. bytes_eq l.path path) asked.path
    && is_if_given (λ id. l.id == id) asked.id
    && is_if_given (λ ref. bytes_eq l.ref ref) asked.ref

-- the locks that List shows: those that meet the filters and that the caller may list
abbrev pub listed_locks : Case → ListForm → List Lock
listed_locks c asked =
    filter (λ l. meets asked l && may_list c.setting.policy c.caller.user l) c.state.locks

-- the verdict on a request for a list of locks
abbrev pub list_verdict : Case → ListForm → Answer
list_verdict c asked = do
  may ← may_pull c.setting.policy c.caller.user c.repo.name 403
  cursor ← by_rules (cursor_in asked.cursor)
  Ok (lists (page_of cursor (page_limit asked.limit) (listed_locks c asked)))

-- ---- Verify locks

-- the locks of a ref
abbrev pub ref_locks : Case → List ℕ → List Lock
ref_locks c ref = filter (λ l. bytes_eq l.ref ref) c.state.locks

-- the verdict on a request for the locks of a ref, the caller's own apart
abbrev pub verify_locks_verdict : Case → VerifyLocksForm → Answer
verify_locks_verdict c asked =
    let ref = ref_or_default asked.ref c.repo in
    permit c.setting.policy (push_question c.caller.user c.repo.name ref) 403 >>= λ may.
    by_rules (cursor_in asked.cursor) >>= λ cursor.
    Ok (splits c.caller.user (page_of cursor (page_limit asked.limit) (ref_locks c ref)))

-- ---- Unlock

-- the lock of that id, if the caller sees it
abbrev pub visible_lock : Case → ℕ → Option Lock
visible_lock c id = find (λ l. l.id == id && sees c.setting.policy c.caller.user l) c.state.locks

-- users release their own locks by the right to lock, and those of others by force and the right to force
abbrev pub release_verdict : Case → Bool → Lock → Answer
release_verdict c force l =
    if is_own c.caller.user l
    then (permit c.setting.policy (lock_question right.Lock c.caller.user l) 403 >>= λ may. Ok (releases l))
    else (by_rules (check force L3) >>= λ forced.
    permit c.setting.policy (lock_question right.Force c.caller.user l) 403 >>= λ may. Ok (releases l))

-- the verdict on a request to release a lock
abbrev pub unlock_verdict : Case → UnlockForm → Answer
unlock_verdict c asked = do
  l ← by_rules (ok_or (visible_lock c asked.id) L2)
  release_verdict c asked.force l
