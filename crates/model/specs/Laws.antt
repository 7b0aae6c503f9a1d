-- Laws of the definitions.
use Rattle.std.specs.Prelude.{◌≡◌, ◌≢◌, ◌<◌, ◌≤◌, ◌+◌, ℕ, true, false, List, [], ◌∷◌, ◌++◌, length, map, All, AllPairs, Contains, Option, Some, None, Ok, Err, ◌⊎◌, ◌↔◌, option_map, ⊤, Bool, ◌&&◌, not, is_some, bytes_eq, if◌then◌else◌}
use Rattle.httparse.specs.Grammar.{RequestHead}
use Rattle.sha2.specs.Sha256.{sha256}
use Rattle.names.specs.Texts.{last_moment}
use Rattle.names.specs.Moments.{IsMomentText}
use Rattle.model.specs.declared.Form.TheVariants as form
use Rattle.model.specs.Reading.{or_default}
use Rattle.model.specs.Policy.{Policy, Repo, repo_named}
use Rattle.model.specs.World.{World, Object, Lock, IsWorld, DiffersInPlace, name_of, nothing, object_named, is_retired, total, with_object, without_object}
use Rattle.model.specs.Heads.{Target, head_verdict}
use Rattle.model.specs.RepoState.{RepoState, repo_state, has_room, locks_of}
use Rattle.model.specs.Callers.{Caller, caller_by, sees}
use Rattle.model.specs.Operator.{removed_now}
use Rattle.model.specs.Cases.{Setting}
use Rattle.model.specs.Answers.{Answer, Denial, serves, stores, makes_lock}
use Rattle.model.specs.Pages.{page_of, IsPage, IsBelow, Leg, IsWalk, walk_locks}
use Rattle.model.specs.Verdict.{verdict, early_verdict, early_check, desk_plan, desk_request, desk_verdict}
use Rattle.model.specs.Steps.{Message, message, IsMessage, repo_asked, Event, exchanged, retires, Exchange, IsExchange, IsStep, Run}
use Rattle.model.specs.Stream.{HasNoHead, NeverIsHead, BeginsWith, IsUnfinished, head_limit}
use Rattle.model.specs.Moments.{moment_text}
use Rattle.model.specs.Replies.{Reply, reply_of}
use Rattle.model.specs.Views.{View, view_of, SameViews, sees_objects, CallerRequest, to_desk, foresee}
use Rattle.model.specs.Bounds.{SameWorld, IsWithin, failed, is_changed, ending_of, intended_world, next_world, bound_of_run}

-- ---- streams

-- a truncated head that no continuation completes: H1 and silence are both allowed
pub record IsFreeChoice (bytes : List ℕ) : Type 0 where
  pub none : HasNoHead bytes
  pub short : length bytes < head_limit
  pub never : NeverIsHead bytes

-- a list of bytes has at most one first message, and one rest after it
abbrev pub HasOneFirst : Type 0
HasOneFirst =
    (bytes : List ℕ) (a b : Message) (rest more : List ℕ) → BeginsWith bytes a rest → BeginsWith bytes b more
    → (a ≡ b) × (rest ≡ more)

-- bytes that have a first message are an incomplete head only if H1 and silence are both allowed
abbrev pub ChoosesOnlyThere : Type 0
ChoosesOnlyThere =
    (bytes : List ℕ) (a : Message) (rest : List ℕ) → BeginsWith bytes a rest → IsUnfinished bytes → IsFreeChoice bytes

-- bytes that begin with a message are never unfinished, cut off or not
abbrev pub MessageIsFinished : Type 0
MessageIsFinished =
    (bytes : List ℕ) (head : RequestHead) (body : List ℕ) (whole : Bool) (rest : List ℕ)
    → BeginsWith bytes (message head body whole) rest → ¬ (IsUnfinished bytes)

-- the body of the first message is as long as its head says, or cut off
abbrev pub BeginsWithMessage : Type 0
BeginsWithMessage = (bytes : List ℕ) (a : Message) (rest : List ℕ) → BeginsWith bytes a rest → IsMessage a

-- nothing follows a body that is cut off
abbrev pub CutIsLast : Type 0
CutIsLast =
    (bytes : List ℕ) (head : RequestHead) (body rest : List ℕ) → BeginsWith bytes (message head body false) rest
    → rest ≡ []

-- what denies a message before its body is read denies it with any body
abbrev pub HeadDecides : Type 0
HeadDecides =
    (world : World) (setting : Setting) (head : RequestHead) (body : List ℕ) (denial : Denial)
    → early_verdict world setting head ≡ Err denial → verdict world setting head body ≡ Err denial

-- the same for every form of request, served or not
abbrev pub TargetDecides : Type 0
TargetDecides =
    (world : World) (setting : Setting) (head : RequestHead) (target : Target) (body : List ℕ) (denial : Denial)
    → early_check target.form (desk_plan world setting (desk_request head target [])) ≡ Err denial
    → desk_verdict world setting (desk_request head target body) body ≡ Err denial

-- ---- worlds

-- each step keeps the laws of worlds
abbrev pub StepsKeepWorlds : Type 0
StepsKeepWorlds = (old : World) (event : Event) (new : World) → IsStep old event new → IsWorld old → IsWorld new

-- each run keeps the laws of worlds
abbrev pub RunsKeepWorlds : Type 0
RunsKeepWorlds = (old : World) (events : List Event) (new : World) → Run old events new → IsWorld old → IsWorld new

-- a run from the empty world leads to a world
abbrev pub RunsMakeWorlds : Type 0
RunsMakeWorlds = (events : List Event) (new : World) → Run nothing events new → IsWorld new

-- a denial leaves the world unchanged
abbrev pub DenialsChangeNothing : Type 0
DenialsChangeNothing =
    (old : World) (e : Exchange) (denial : Denial) (new : World) → IsExchange old e new
    → e.given ≡ Some (Err denial) → new ≡ old

-- a message without an answer leaves the world unchanged
abbrev pub SilenceChangesNothing : Type 0
SilenceChangesNothing = (old : World) (e : Exchange) (new : World) → IsExchange old e new → e.given ≡ None → new ≡ old

-- the message is cut off, and nothing denies it before its body is read
pub record IsCutShort (old : World) (e : Exchange) : Type 0 where
  pub head : RequestHead
  pub body : List ℕ
  pub cut : e.asked ≡ message head body false
  pub passes : early_verdict old e.setting head ≡ Ok tt

-- only such a message has no answer
abbrev pub OnlyCutIsSilent : Type 0
OnlyCutIsSilent = (old : World) (e : Exchange) (new : World) → IsExchange old e new → e.given ≡ None → IsCutShort old e

-- no path of a repository's ref is locked twice, after any run from the empty world
abbrev pub NeverLocksTwice : Type 0
NeverLocksTwice =
    (events : List Event) (new : World) → Run nothing events new → AllPairs DiffersInPlace new.locks

-- the count of made locks never falls
abbrev pub CountsOn : Type 0
CountsOn =
    (old : World) (events : List Event) (new : World) → Run old events new
    → (repo : List ℕ) → old.made repo ≤ new.made repo

-- a new lock has the next id, and is counted
abbrev pub NewIdIsNext : Type 0
NewIdIsNext =
    (old : World) (e : Exchange) (l : Lock) (new : World)
    → IsWorld old → IsExchange old e new → e.given ≡ Some (Ok (makes_lock l))
    → (l.id ≡ old.made l.repo + 1) × (new.made l.repo ≡ l.id)

-- an event that reports no change leaves the world: a denial, a store refusal, a message without an answer
abbrev pub OnlyReportedChanges : Type 0
OnlyReportedChanges =
    (old : World) (event : Event) (new : World) → IsStep old event new → is_changed (ending_of old event) ≡ false
    → new ≡ old

-- an exchange that makes the lock
pub record Makes (l : Lock) : Type 0 where
  pub old : World
  pub exchange : Exchange
  pub new : World
  pub step : IsExchange old exchange new
  pub made : exchange.given ≡ Some (Ok (makes_lock l))

-- two locks of one repository, the second made after the first, with any run between them
pub record AreInTurn (l m : Lock) : Type 0 where
  pub first : Makes l
  pub second : Makes m
  pub laws : IsWorld first.old
  pub between : List Event
  pub run : Run first.new between second.old
  pub repo : l.repo ≡ m.repo

-- no id is reused: a later lock has a greater one
abbrev pub NoIdComesAgain : Type 0
NoIdComesAgain = (l m : Lock) → AreInTurn l m → l.id < m.id

-- ---- contents

-- the exchange is a granted upload of just these bytes, under this name, in this repository
pub record IsPutOf (o : Object) (e : Exchange) : Type 0 where
  pub head : RequestHead
  pub target : Target
  pub asked : e.asked ≡ message head o.bytes true
  pub verdict : head_verdict head ≡ Ok target
  pub form : target.form ≡ form.Put
  pub repo : target.repo ≡ o.repo
  pub name : target.parameter ≡ o.name
  pub given : e.given ≡ Some (Ok (stores o))

-- the exchange is a download of this object: of its name, in its repository
pub record IsGetOf (o : Object) (e : Exchange) : Type 0 where
  pub head : RequestHead
  pub body : List ℕ
  pub target : Target
  pub asked : e.asked ≡ message head body true
  pub verdict : head_verdict head ≡ Ok target
  pub form : target.form ≡ form.Get
  pub repo : target.repo ≡ o.repo
  pub name : target.parameter ≡ o.name

-- a download is answered with the object that it asks for
abbrev pub ServesWhatIsAsked : Type 0
ServesWhatIsAsked =
    (old : World) (e : Exchange) (o : Object) (new : World) → IsExchange old e new
    → e.given ≡ Some (Ok (serves o)) → IsGetOf o e

-- a download is answered with an object that is stored
abbrev pub ServesWhatIsKept : Type 0
ServesWhatIsKept =
    (old : World) (e : Exchange) (o : Object) (new : World) → IsExchange old e new
    → e.given ≡ Some (Ok (serves o)) → Contains old.objects o

-- an object that a download is answered with has the name of its bytes
abbrev pub ServedHasItsName : Type 0
ServedHasItsName =
    (old : World) (e : Exchange) (o : Object) (new : World)
    → IsWorld old → IsExchange old e new → e.given ≡ Some (Ok (serves o)) → o.name ≡ name_of o.bytes

-- the event removed the repository's object of this name
abbrev pub Removes : List ℕ → List ℕ → Event → Type 0
Removes repo name (retires r n (Some removed_now)) = (r ≡ repo) × (n ≡ name)
Removes repo name _ = ⊥

-- among the events there is a granted upload of the object, and none since removed the object of its name
pub record WasPut (events : List Event) (o : Object) : Type 0 where
  pub put : Exchange
  pub before : List Event
  pub later : List Event
  pub order : events ≡ before ++ exchanged put ∷ later
  pub is : IsPutOf o put
  pub since : All (λ event. ¬ (Removes o.repo o.name event)) later

-- what is served was uploaded before and not removed since, in a run from the empty world
abbrev pub ServedWasPut : Type 0
ServedWasPut =
    (events : List Event) (old : World) (e : Exchange) (o : Object) (new : World)
    → Run nothing events old → IsExchange old e new → e.given ≡ Some (Ok (serves o)) → WasPut events o

-- the object that an answer says is stored
abbrev pub stored_by : Option Answer → Option Object
stored_by (Some (Ok (stores o))) = Some o
stored_by _ = None

-- the object that an event says is stored; only the answer to a message does
abbrev pub object_stored : Event → Option Object
object_stored (exchanged e) = stored_by e.given
object_stored _ = None

-- the objects of a world with this one, if there is one
abbrev pub objects_with : Option Object → World → List Object
objects_with (Some o) world = (with_object o world).objects
objects_with None world = world.objects

-- the objects after an event: an upload that is answered as stored adds its object, and a removal that is reported takes
-- the object away
abbrev pub objects_after : World → Event → List Object
objects_after old (retires repo name (Some removed_now)) = (without_object repo name old).objects
objects_after old event = objects_with (object_stored event) old

-- no other step changes the objects
abbrev pub OnlyTheseChangeObjects : Type 0
OnlyTheseChangeObjects =
    (old : World) (event : Event) (new : World) → IsStep old event new → new.objects ≡ objects_after old event

-- a name that was retired stays so, and no object has it
abbrev pub RetiredForGood : Type 0
RetiredForGood =
    (old : World) (events : List Event) (new : World) (repo name : List ℕ) → IsWorld old → Run old events new
    → is_retired repo name old ≡ true → (is_retired repo name new ≡ true) × (object_named repo name new ≡ None)

-- a removal that is reported retires the name
abbrev pub RemovedIsRetired : Type 0
RemovedIsRetired =
    (old : World) (event : Event) (new : World) (repo name : List ℕ) → IsStep old event new → Removes repo name event
    → is_retired repo name new ≡ true

-- ---- the quota

-- the size that this object adds to the repository's total: none if it is of another one, or its name is stored there
abbrev pub size_added : List ℕ → World → Option Object → ℕ
size_added repo world (Some o) =
    if bytes_eq o.repo repo && not (is_some (object_named o.repo o.name world)) then length o.bytes else 0
size_added repo world None = 0

-- the size that the event takes from the repository's total: that of the object that it removes
abbrev pub size_removed : List ℕ → World → Event → ℕ
size_removed repo world (retires r name (Some removed_now)) =
    if bytes_eq r repo then or_default (option_map (λ o. length o.bytes) (object_named r name world)) 0 else 0
size_removed repo world _ = 0

-- a repository's total changes by no step but such an upload of a new object, and grows by its size; and but a removal,
-- and falls by the object's size
abbrev pub TotalsFollowObjects : Type 0
TotalsFollowObjects =
    (old : World) (event : Event) (new : World) (repo : List ℕ) → IsWorld old → IsStep old event new
    → total repo new + size_removed repo old event ≡ total repo old + size_added repo old (object_stored event)

-- in any world, also one that does not keep the laws, a step that removes nothing changes a repository's total only so
abbrev pub TotalsGrowByUploads : Type 0
TotalsGrowByUploads =
    (old : World) (event : Event) (new : World) (repo : List ℕ) → IsStep old event new
    → ((r name : List ℕ) → ¬ (Removes r name event))
    → total repo new ≡ total repo old + size_added repo old (object_stored event)

-- an object fits exactly if the stored total and its size are within the quota
abbrev pub RoomIsQuota : Type 0
RoomIsQuota =
    (world : World) (repo : Repo) (size : ℕ)
    → (has_room size (repo_state repo world) ≡ true) ↔ (total repo.name world + size ≤ repo.quota)

-- the repository's quota under a policy; 0 if the policy does not have it
abbrev pub quota_of : List ℕ → Policy → ℕ
quota_of repo policy = or_default (option_map (λ r. r.quota) (repo_named repo policy)) 0

-- the policy of the event gives the repository at most this quota
abbrev pub HasQuotaWithin : List ℕ → ℕ → Event → Type 0
HasQuotaWithin repo most (exchanged e) = quota_of repo e.setting.policy ≤ most
HasQuotaWithin repo most _ = ⊤

-- a stored total within a bound stays within it in each run whose quotas are within it; the quota may change on the way
abbrev pub StaysInQuota : Type 0
StaysInQuota =
    (repo : List ℕ) (most : ℕ) (old : World) (events : List Event) (new : World)
    → IsWorld old → Run old events new → All (HasQuotaWithin repo most) events
    → total repo old ≤ most → total repo new ≤ most

-- ---- pages

-- a page of rising locks has those of least id from the cursor on
abbrev pub PageIsLeast : Type 0
PageIsLeast =
    (cursor limit : ℕ) (locks : List Lock) → AllPairs IsBelow locks
    → IsPage locks cursor limit (page_of cursor limit locks)

-- the locks of a repository rise by id
abbrev pub LocksRise : Type 0
LocksRise = (world : World) (repo : List ℕ) → IsWorld world → AllPairs IsBelow (locks_of repo world)

-- the two lists have the same members
abbrev pub HaveSame : List Lock → List Lock → Type 0
HaveSame xs ys = (l : Lock) → Contains xs l ↔ Contains ys l

-- the locks of a repository, and so its pages, do not depend on the order in which the world lists them
abbrev pub LocksIgnoreOrder : Type 0
LocksIgnoreOrder =
    (a b : World) (repo : List ℕ) → IsWorld a → IsWorld b → HaveSame a.locks b.locks → locks_of repo a ≡ locks_of repo b

-- they are the locks of that repository, and no others
abbrev pub LocksAreThose : Type 0
LocksAreThose =
    (world : World) (repo : List ℕ) (l : Lock)
    → Contains (locks_of repo world) l ↔ (Contains world.locks l × (l.repo ≡ repo))

-- the joined pages of a walk rise, so no lock occurs twice; and each lock that was shown at every page is in them
pub record IsWholeWalk (cursor : ℕ) (legs : List Leg) : Type 0 where
  pub rise : AllPairs IsBelow (walk_locks legs)
  pub complete : (l : Lock) → cursor ≤ l.id → All (λ leg. Contains leg.shown l) legs → Contains (walk_locks legs) l

-- each walk is whole, whatever happens between its pages
abbrev pub WalksAreWhole : Type 0
WalksAreWhole = (cursor : ℕ) (legs : List Leg) → IsWalk cursor legs → IsWholeWalk cursor legs

-- ---- views

-- the reply to a caller is the one that the caller's view foretells
abbrev pub ViewsForetell : Type 0
ViewsForetell =
    (world : World) (setting : Setting) (caller : Caller) (asked : CallerRequest)
    → IsWorld world → caller_by world setting.now asked.bearers ≡ Ok caller
    → foresee (view_of world setting.policy caller.user caller.repo) setting.now asked
    ≡ Ok (reply_of (desk_verdict world setting (to_desk caller.repo asked) asked.body))

-- a caller of the world, of this user and this repository
pub record IsCallerOf (world : World) (now : ℕ) (bearers : List (List ℕ)) (view : View) : Type 0 where
  pub caller : Caller
  pub is : caller_by world now bearers ≡ Ok caller
  pub user : caller.user ≡ view.user
  pub repo : caller.repo ≡ view.repo

-- a reply is foreseen only if the token that is presented is a valid one of the view's user and repository
abbrev pub OnlyCallersAreForeseen : Type 0
OnlyCallersAreForeseen =
    (world : World) (policy : Policy) (user repo : List ℕ) (now : ℕ) (asked : CallerRequest) (r : Reply)
    → IsWorld world → foresee (view_of world policy user repo) now asked ≡ Ok r
    → IsCallerOf world now asked.bearers (view_of world policy user repo)

-- what the user does not see is not in the view
pub record IsSeen (policy : Policy) (user repo : List ℕ) (state : RepoState) : Type 0 where
  pub locks : All (λ l. sees policy user l ≡ true) state.locks
  pub objects : sees_objects policy user repo ≡ false → (state.objects ≡ []) × (state.retired ≡ [])

-- a view has only the locks that the user sees, and no objects and retired names unless the user sees them
abbrev pub ViewsShowWhatIsSeen : Type 0
ViewsShowWhatIsSeen =
    (world : World) (policy : Policy) (user repo : List ℕ)
    → IsSeen policy user repo (view_of world policy user repo).state

-- two worlds that look the same to a caller, and the same request of that caller to both
pub record AreAlike (a b : World) : Type 0 where
  pub setting : Setting
  pub caller : Caller
  pub asked : CallerRequest
  pub left : IsWorld a
  pub right : IsWorld b
  pub here : caller_by a setting.now asked.bearers ≡ Ok caller
  pub there : caller_by b setting.now asked.bearers ≡ Ok caller
  pub same : view_of a setting.policy caller.user caller.repo ≡ view_of b setting.policy caller.user caller.repo

-- the answer in a world to the request of a caller
abbrev pub answer_in : World → Setting → Caller → CallerRequest → Answer
answer_in world setting caller asked = desk_verdict world setting (to_desk caller.repo asked) asked.body

-- the contents that such worlds serve have one SHA-256
abbrev pub ViewsServeOneDigest : Type 0
ViewsServeOneDigest =
    (a b : World) (o p : Object) (alike : AreAlike a b)
    → answer_in a alike.setting alike.caller alike.asked ≡ Ok (serves o)
    → answer_in b alike.setting alike.caller alike.asked ≡ Ok (serves p) → sha256 o.bytes ≡ sha256 p.bytes

-- an exchange leaves every user's view of a repository that its message does not ask about
abbrev pub OthersLeaveViews : Type 0
OthersLeaveViews =
    (old : World) (e : Exchange) (new : World) (repo : List ℕ)
    → IsExchange old e new → repo_asked e.asked ≢ Some repo → SameViews repo old new

-- no message of the exchanges asks about the repository
abbrev pub NoneAsks : List ℕ → List Exchange → Type 0
NoneAsks repo exchanges = All (λ e. repo_asked e.asked ≢ Some repo) exchanges

-- exchanges leave every user's view of a repository that none of their messages asks about
abbrev pub SessionsLeaveViews : Type 0
SessionsLeaveViews =
    (old : World) (exchanges : List Exchange) (new : World) (repo : List ℕ)
    → Run old (map exchanged exchanges) new → NoneAsks repo exchanges → SameViews repo old new

-- ---- moments

-- the text of a moment is the computed text
abbrev pub MomentIsText : Type 0
MomentIsText = (moment : ℕ) (text : List ℕ) → IsMomentText moment text → text ≡ moment_text moment

-- the computed text of a moment in range is its text
abbrev pub MomentHasText : Type 0
MomentHasText = (moment : ℕ) → moment ≤ last_moment → IsMomentText moment (moment_text moment)

-- ---- stops

-- each step leads to the world that its report says
abbrev pub ReportsAreTrue : Type 0
ReportsAreTrue = (old : World) (event : Event) (new : World) → IsStep old event new → new ≡ next_world old event

-- none of the events, in this world, made a change
abbrev pub NoneChanges : World → List Event → Type 0
NoneChanges world events = All (λ event. is_changed (ending_of world event) ≡ false) events

-- since the last change the store refused an event, and this is the world that it was to make
pub record IsHalfDone (events : List Event) (new world : World) : Type 0 where
  pub before : List Event
  pub event : Event
  pub later : List Event
  pub order : events ≡ before ++ event ∷ later
  pub refused : ending_of new event ≡ failed
  pub same : SameWorld (intended_world new event) world
  pub since : NoneChanges new later

-- a stop leaves the last world of a run, or that world with one change that the store refused after the last change
abbrev pub LeavesOneChange : Type 0
LeavesOneChange =
    (old : World) (events : List Event) (new : World) → Run old events new → (world : World)
    → IsWithin (bound_of_run old events (old ∷ [])) world → SameWorld new world ⊎ IsHalfDone events new world
