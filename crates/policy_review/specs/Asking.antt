-- Which requests ask a right.
use Rattle.std.specs.Prelude.{ℕ, List, codes}
use Rattle.model.specs.declared.Right.{Right}
use Rattle.model.specs.declared.Right.TheVariants as right

-- the requests that ask the right, in words
abbrev pub requests_of : Right → List ℕ
requests_of right.Pull = codes "a download (batch, GET of an object), as in a fetch or a clone; a list of locks"
requests_of right.Push = codes "an upload (batch, PUT of an object, verification of an object); the check of the locks of a ref before a push; pushcheck, for each path"
requests_of right.List = codes "a list of locks, for each lock in it"
requests_of right.Lock = codes "the creation of a lock; the release of a lock of one's own"
requests_of right.Force = codes "the release of another user's lock, by force"
