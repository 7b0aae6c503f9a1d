-- The worked examples that are proved by computation.
use Rattle.std.proofs.Common.{refl}
use Rattle.model.proofs.OnLiterals.{on_literals}
use Rattle.model.specs.Examples.{FirstIsLocked, SecondIsRefused, OtherRefIsLocked, HeadsAreRefused, MethodIsRefused, RoutesLead, NamelessIsRefused, TokenExpires, RepositoryIsUnknown, DownloadLocksNothing, CutIsUnanswered, FolderIsFrozen, PushIsDenied, ContentHasItsName, ContentIsServed, QuotaIsKept, UploadIsRefusedEarly, StoredIsConfirmed, UploadIsOffered, DownloadIsOffered, ObjectsAreRefused, ObjectsAreInvalid, RetiredIsGone, HashIsRefused, BatchIsRefused, HiddenIsLeftOut, PagesAreCut, PagesAreRefused, LocksAreSplit, LockIsReleased, LocksAreServed, RefusalCloses, TokenIsIssued, TokenIsPruned, ObjectIsRemoved, MomentsArePrinted}

pub first_is_locked : FirstIsLocked
unfolding on_literals
first_is_locked = (refl, refl, refl)

pub second_is_refused : SecondIsRefused
unfolding on_literals
second_is_refused = (refl, refl, refl)

pub other_ref_is_locked : OtherRefIsLocked
unfolding on_literals
other_ref_is_locked = (refl, refl)

pub heads_are_refused : HeadsAreRefused
unfolding on_literals
heads_are_refused = ((refl, refl), (refl, refl), (refl, refl), (refl, refl), (refl, refl), (refl, refl), (refl, refl), (refl, refl), (refl, refl))

pub method_is_refused : MethodIsRefused
unfolding on_literals
method_is_refused = refl

pub routes_lead : RoutesLead
unfolding on_literals
routes_lead = (refl, refl, refl, refl, refl, refl, refl, refl, refl)

pub nameless_is_refused : NamelessIsRefused
unfolding on_literals
nameless_is_refused = refl

pub token_expires : TokenExpires
unfolding on_literals
token_expires = (refl, refl, refl)

pub repository_is_unknown : RepositoryIsUnknown
unfolding on_literals
repository_is_unknown = (refl, refl)

pub download_locks_nothing : DownloadLocksNothing
unfolding on_literals
download_locks_nothing = (refl, refl)

pub cut_is_unanswered : CutIsUnanswered
unfolding on_literals
cut_is_unanswered = refl

pub folder_is_frozen : FolderIsFrozen
unfolding on_literals
folder_is_frozen = (refl, refl)

pub push_is_denied : PushIsDenied
unfolding on_literals
push_is_denied = (refl, refl)

pub content_has_its_name : ContentHasItsName
unfolding on_literals
content_has_its_name = (refl, refl, refl, refl, refl)

pub content_is_served : ContentIsServed
unfolding on_literals
content_is_served = (refl, refl)

pub quota_is_kept : QuotaIsKept
unfolding on_literals
quota_is_kept = (refl, refl, refl)

pub upload_is_refused_early : UploadIsRefusedEarly
unfolding on_literals
upload_is_refused_early = (refl, refl, refl, refl, refl, refl)

pub stored_is_confirmed : StoredIsConfirmed
unfolding on_literals
stored_is_confirmed = (refl, refl, refl, refl, refl)

pub upload_is_offered : UploadIsOffered
unfolding on_literals
upload_is_offered = refl

pub download_is_offered : DownloadIsOffered
unfolding on_literals
download_is_offered = refl

pub objects_are_refused : ObjectsAreRefused
unfolding on_literals
objects_are_refused = (refl, refl, refl)

pub objects_are_invalid : ObjectsAreInvalid
unfolding on_literals
objects_are_invalid = (refl, refl)

pub retired_is_gone : RetiredIsGone
unfolding on_literals
retired_is_gone = (refl, refl, refl, refl, refl)

pub hash_is_refused : HashIsRefused
unfolding on_literals
hash_is_refused = refl

pub batch_is_refused : BatchIsRefused
unfolding on_literals
batch_is_refused = (refl, refl, refl, refl)

pub hidden_is_left_out : HiddenIsLeftOut
unfolding on_literals
hidden_is_left_out = (refl, refl)

pub pages_are_cut : PagesAreCut
unfolding on_literals
pages_are_cut = (refl, refl, refl, refl, refl)

pub pages_are_refused : PagesAreRefused
unfolding on_literals
pages_are_refused = (refl, refl, refl, refl)

pub locks_are_split : LocksAreSplit
unfolding on_literals
locks_are_split = (refl, refl, refl)

pub lock_is_released : LockIsReleased
unfolding on_literals
lock_is_released = (refl, refl, refl, refl, refl, refl, refl)

pub locks_are_served : LocksAreServed
unfolding on_literals
locks_are_served = (refl, refl, refl)

pub refusal_closes : RefusalCloses
unfolding on_literals
refusal_closes = refl

pub token_is_issued : TokenIsIssued
unfolding on_literals
token_is_issued = (refl, refl, refl)

pub token_is_pruned : TokenIsPruned
unfolding on_literals
token_is_pruned = (refl, refl)

pub object_is_removed : ObjectIsRemoved
unfolding on_literals
object_is_removed = (refl, refl, refl)

pub moments_are_printed : MomentsArePrinted
unfolding on_literals
moments_are_printed = (refl, refl)
