-- How a session ends.
use Rattle.std.specs.Prelude.{OnOk}
use Rattle.std.proofs.Common.{◌≡◌, ℕ}
use Rattle.service.specs.Served.{IsCountedAs}
use Rattle.service.specs.declared.ends.End.{End}
use Rattle.service.specs.declared.ends.End.TheVariants.{InputEnded, Closed, StoreRefused, ReadFailed, WriteFailed, StoreFailed}
use Rattle.cli.specs.Sessions.{session_ended}

-- a connection that ended well has written all that it had to
pub good_written : (old new : ℕ) (end : End) → IsCountedAs old new end → OnOk (session_ended end) (new ≡ old)
good_written old new InputEnded counted = counted
good_written old new Closed counted = counted
good_written old new StoreRefused counted = counted
good_written old new ReadFailed counted = tt
good_written old new WriteFailed counted = tt
good_written old new StoreFailed counted = tt
