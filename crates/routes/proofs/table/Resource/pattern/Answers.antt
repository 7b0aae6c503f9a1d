use Rattle.routes.proofs.Prelude.{refl}
use Rattle.matchit.proofs.OnLiterals.{matchit_on_literals}
use Rattle.routes.proofs.table.Resource.pattern.Goals as goal

pub returns-in-Batch : goal.returns-in-Batch
unfolding matchit_on_literals
returns-in-Batch c = rw c.in-Batch.is refl

pub returns-in-Locks : goal.returns-in-Locks
unfolding matchit_on_literals
returns-in-Locks c = rw c.in-Locks.is refl

pub returns-in-VerifyLocks : goal.returns-in-VerifyLocks
unfolding matchit_on_literals
returns-in-VerifyLocks c = rw c.in-VerifyLocks.is refl

pub returns-in-Unlock : goal.returns-in-Unlock
unfolding matchit_on_literals
returns-in-Unlock c = rw c.in-Unlock.is refl

pub returns-in-Content : goal.returns-in-Content
unfolding matchit_on_literals
returns-in-Content c = rw c.in-Content.is refl

pub returns-in-Verify : goal.returns-in-Verify
unfolding matchit_on_literals
returns-in-Verify c = rw c.in-Verify.is refl
