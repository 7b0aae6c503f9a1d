-- A request for a lock.
use Rattle.std.specs.Prelude.{◌≡◌, ◌+◌, ℕ, nat_lt, [], Some, Ok, Err}
use Rattle.names.specs.Names.{repo_text, ref_text, path_text, user_text}
use Rattle.names.specs.Texts.{last_lock_id}
use Rattle.names.specs.declared.rules.Rule.TheVariants.{L5}
use Rattle.model.specs.Reading.{◌>>=◌, check}
use Rattle.model.specs.World.{World, Lock}
use Rattle.model.specs.Policy.{Policy, Question}
use Rattle.model.specs.Answers.{Answer, makes_lock, by_lock, by_rules, permit}
use Rattle.model.specs.Locks.{ref_or_default}
use Rattle.model.specs.declared.Right.TheVariants as right
use Rattle.forms.specs.Requests.{lock_asked}
use Rattle.forms.specs.ShownLocks.{IsOf}
use Rattle.forms.specs.declared.shown_lock.ShownLock.{ShownLock}
use Rattle.forms.specs.declared.lock.LockRequest.{LockRequest}
use Rattle.tables.specs.declared.rows.LockRow.{LockRow}
use Rattle.tables.specs.declared.new_rows.NewLock.{NewLock}
use Rattle.locks.specs.Creating.{placed_verdict}
use Rattle.desk.specs.declared.replies.Reply.{Reply}
use Rattle.desk.specs.declared.cases.Case.{Case}
use Rattle.desk.specs.Rights.{case_repo, case_user}
use Rattle.desk.specs.Replies.{IsReplyOf}

-- the lock has the id, the moment, the owner and the path of the row
pub record IsOfRow (row : LockRow) (l : Lock) : Type 0 where
  pub id : l.id ≡ row.id
  pub at : l.at ≡ row.moment
  pub owner : l.owner ≡ user_text row.owner
  pub path : l.path ≡ path_text row.path

-- a lock of the row is a lock that is shown
abbrev pub ShowsRow : LockRow → ShownLock → Type 0
ShowsRow row shown = (l : Lock) → IsOfRow row l → IsOf shown l

-- the verdict on a lock on a free path, after `made` others: it is made, or L5 if no id is left
abbrev pub free_verdict : ℕ → Lock → Answer
free_verdict made l = by_rules (check (nat_lt made last_lock_id) L5) >>= λ room. Ok (makes_lock l)

-- the part of the row's lock that a client sees
abbrev pub lock_part : LockRow → Lock
lock_part row = record {
  repo = [];
  id = row.id;
  ref = [];
  path = path_text row.path;
  owner = user_text row.owner;
  at = row.moment;
}

-- the reply is that to the lock of this attempt on a free path, after `made` others
abbrev pub IsReadyAfter : ℕ → NewLock → Reply → Type 0
IsReadyAfter made w reply =
    (l : Lock) → l.id ≡ made + 1 → l.at ≡ w.moment → l.owner ≡ user_text w.owner.now → l.path ≡ path_text w.path.now
    → IsReplyOf reply (free_verdict made l)

-- the reply reports the lock of this row as the one that holds the path
abbrev pub ReportsHeld : LockRow → Reply → Type 0
ReportsHeld row reply = (l : Lock) → IsOfRow row l → IsReplyOf reply (Err (by_lock l))

-- the attempt is what the request asks, in this repository and for this user
pub record IsWantedBy (case : Case) (asked : LockRequest) (w : NewLock) : Type 0 where
  pub repo : repo_text w.repo.now ≡ (case_repo case).name
  pub ref : ref_text w.ref_name.now ≡ ref_or_default (lock_asked asked).ref (case_repo case)
  pub path : path_text w.path.now ≡ (lock_asked asked).path
  pub owner : user_text w.owner.now ≡ case_user case
  pub at : w.moment ≡ case.now

-- the question to the policy
abbrev pub question_on : NewLock → Question
question_on w = record {
  user = user_text w.owner.now;
  repo = repo_text w.repo.now;
  right = right.Lock;
  ref = Some (ref_text w.ref_name.now);
  path = Some (path_text w.path.now);
}

-- the policy's denial, or the verdict on the place
abbrev pub allowed_verdict : World → Policy → NewLock → Answer
allowed_verdict world policy w =
    permit policy (question_on w) 403 >>= λ may. placed_verdict world w
