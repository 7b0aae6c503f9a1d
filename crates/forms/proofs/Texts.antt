-- The JSON of a lock, from its texts.
use Rattle.forms.proofs.Prelude.{◌≡◌, decimal, refl, lock_data, lock_shown, data_of_texts, LockTexts, ShownLock}
use Rattle.names.specs.Names.{user_text, path_text}
use Rattle.model.specs.Moments.{moment_text}

-- the texts are those of the shown lock
pub record AreTextsOf (t : LockTexts) (shown : ShownLock) : Type 0 where
  pub id : t.id.now ≡ decimal shown.id
  pub at : t.locked_at.now ≡ moment_text shown.locked_at
  pub owner : t.owner.now ≡ user_text shown.owner.now
  pub path : t.path.now ≡ path_text shown.path.now

pub lock_is : (t : LockTexts) (shown : ShownLock) → AreTextsOf t shown → data_of_texts t ≡ lock_data (lock_shown shown)
lock_is t shown is = rw (is.id, is.at, is.owner, is.path) refl
