-- What a task does: it succeeds or fails as its verdicts say, and takes no step but its own.
use Rattle.std.specs.Prelude.{◌≡◌, ◌⊎◌, ℕ, Bool, true, false, List, [], ◌∷◌, map, Option, Some, Result, Ok, Err, MatchResult, ⊤}
use Rattle.std.specs.List.{list_all}
use Rattle.store.specs.declared.state.State.{Ghosts}
use Rattle.names.specs.Names.{repo_text, path_text, user_text}
use Rattle.policy.specs.Access.{may}
use Rattle.policy.specs.Values.{policy_view}
use Rattle.model.specs.World.{World, Token}
use Rattle.model.specs.Operator.{Removal, removal_of, token_verdict}
use Rattle.model.specs.PushChecks.{PushVerdict, free, push_verdicts}
use Rattle.model.specs.Steps.{Event, issues, prunes, retires}
use Rattle.refinement.specs.Left.{Leads, KeepsTables}
use Rattle.tokens.specs.Issuing.{Issues, token_asked}
use Rattle.tokens.specs.Pruning.{Prunes}
use Rattle.uploads.specs.Removing.{Sweeps}
use Rattle.pushcheck.specs.Verdicts.{push_by}
use Rattle.operator.specs.Failing.{Fails, IsPlain, IsOutput, IsIssueOf, IsTokenFault}
use Rattle.operator.specs.Foresights.{Foretells, HasForetold}
use Rattle.operator.specs.Removals.{IsGone, IsRemoved, IsRemovalOf, IsRemovalFault}
use Rattle.operator.specs.Works.{Works, steps_of}
use Rattle.operator.specs.declared.faults.TaskFault.{TaskFault}
use Rattle.operator.specs.declared.faults.TaskFault.TheVariants.{NoCaller, Reported}
use Rattle.operator.specs.declared.foreseeing.Foresight.{Foresight}
use Rattle.operator.specs.declared.permitting.AccessQuestion.{AccessQuestion}
use Rattle.operator.specs.declared.pushing.Push.{Push}
use Rattle.operator.specs.declared.tasks.Task.{Task}
use Rattle.operator.specs.declared.tasks.Task.TheVariants.{Issue, Prune, May, CheckPush, Foresee, ListLocks, ListObjects, ListTokens, Usage, CheckObjects, Repair, Sweep, Retire}

-- ---- success

-- Git may begin
abbrev pub may_begin : AccessQuestion → Bool
may_begin asked = may asked.access (policy_view asked.policy.now) (user_text asked.user.now) (repo_text asked.repo.now)

-- the path may be pushed
abbrev pub is_free : PushVerdict → Bool
is_free free = true
is_free _ = false

-- each path of the push may be pushed
abbrev pub may_push_all : World → Push → Bool
may_push_all world push =
    list_all is_free (push_verdicts (policy_view push.policy.now) world (push_by push.user.now push.repo.now push.ref_name.now) (map path_text push.paths.items))

-- the token is issued, the expired ones are removed, no upload is left staged, or the object is removed, now or before; the
-- other tasks only read: Git may begin, each path may be pushed, a reply is foreseen; a repair finds no damaged object in a
-- world, and leaves the tables
abbrev pub Does : {S : Type 0} (g : Ghosts S) → S → S → World → Task → Type 0
Does g old new world (Issue policy asked) = (text : List ℕ) × Issues g world old new asked text
Does g old new world (Prune now) = (n : ℕ) × Prunes g world now old new (Ok n)
Does g old new world Sweep = (n : ℕ) × Sweeps g world old new (Ok n)
Does g old new world (Retire repo oid) = IsRemoved g old new world (repo_text repo.now) oid.now
Does g old new world (May asked) = Leads g old new world (λ bound. bound) × (may_begin asked ≡ true)
Does g old new world (CheckPush push) = Leads g old new world (λ bound. bound) × (may_push_all world push ≡ true)
Does g old new world (Foresee asked) = Leads g old new world (λ bound. bound) × HasForetold world asked
Does g old new world (ListLocks repo) = Leads g old new world (λ bound. bound)
Does g old new world (ListObjects repo) = Leads g old new world (λ bound. bound)
Does g old new world (ListTokens repo now) = Leads g old new world (λ bound. bound)
Does g old new world (Usage policy now) = Leads g old new world (λ bound. bound)
Does g old new world (CheckObjects terminal) = Leads g old new world (λ bound. bound)
Does g old new world (Repair terminal) = Leads g old new world (λ bound. bound) × KeepsTables g old new

-- ---- failure

-- the one step of a task, whatever it reports: a token that is issued, expired ones or an object that are removed
abbrev pub IsStepOf : Task → Event → Type 0
IsStepOf (Issue policy asked) event = IsIssueOf asked event
IsStepOf (Prune now) event = (given : Option ℕ) × (event ≡ prunes now given)
IsStepOf (Retire repo oid) event = IsRemovalOf (repo_text repo.now) oid.now event
IsStepOf _ event = ⊥

-- after tokens or an object were removed, the line may not be written
abbrev pub MayFollow : Task → TaskFault → Type 0
MayFollow (Prune now) fault = IsOutput fault
MayFollow (Retire repo oid) fault = IsOutput fault
MayFollow _ fault = ⊥

-- Git may not begin
abbrev pub IsAccessFault : AccessQuestion → TaskFault → Type 0
IsAccessFault asked Reported = may_begin asked ≡ false
IsAccessFault asked fault = IsPlain fault

-- not each path of the push may be pushed
abbrev pub IsPushFault : World → Push → TaskFault → Type 0
IsPushFault world push Reported = may_push_all world push ≡ false
IsPushFault world push fault = IsPlain fault

-- no reply is foreseen, as the definitions say, or for a plain reason
abbrev pub IsForesightFault : World → Foresight → TaskFault → Type 0
IsForesightFault world asked NoCaller = Foretells world asked (Err NoCaller)
IsForesightFault world asked fault = IsPlain fault

-- the fault is the task's own, as the definitions say: Git may not begin, a path may not be pushed, a token may not be issued,
-- no reply is foreseen, or there is no object; no object of a world is damaged
abbrev pub IsTaskFault : World → Task → TaskFault → Type 0
IsTaskFault world (May asked) fault = IsAccessFault asked fault
IsTaskFault world (CheckPush push) fault = IsPushFault world push fault
IsTaskFault world (Issue policy asked) fault = IsTokenFault world asked fault
IsTaskFault world (Foresee asked) fault = IsForesightFault world asked fault
IsTaskFault world (Retire repo oid) fault = IsRemovalFault (removal_of world (repo_text repo.now) oid.now) fault
IsTaskFault world _ fault = IsPlain fault

-- the task fails for a reason of its own, and takes no step but its own
abbrev pub FailsAs : {S : Type 0} (g : Ghosts S) → S → S → World → Task → TaskFault → Type 0
FailsAs g old new world task fault = Fails g (IsStepOf task) (MayFollow task fault) old new world × IsTaskFault world task fault

-- ---- the tables

-- the task is a question, whose answer changes nothing
abbrev pub IsQuestion : Task → Type 0
IsQuestion (May asked) = ⊤
IsQuestion (CheckPush push) = ⊤
IsQuestion (Foresee asked) = ⊤
IsQuestion (ListLocks repo) = ⊤
IsQuestion (ListObjects repo) = ⊤
IsQuestion (ListTokens repo now) = ⊤
IsQuestion (Usage policy now) = ⊤
IsQuestion _ = ⊥

-- the task is a check of all objects
abbrev pub IsCheck : Task → Type 0
IsCheck (CheckObjects terminal) = ⊤
IsCheck _ = ⊥

-- ---- both

-- the task did what it is to do, or failed
abbrev pub Ran : {S : Type 0} (g : Ghosts S) → S → S → World → Task → Result ⊤ TaskFault → Type 0
Ran g old new world task result = MatchResult result (λ _. Does g old new world task) (FailsAs g old new world task)

-- ---- the steps of both

-- the steps of a task that succeeded: its token was issued, the expired ones were removed, the object was removed, now or
-- before; Git may begin, each path may be pushed, a reply is foreseen; the other tasks take none
abbrev pub HasDone : World → Task → List Event → Type 0
HasDone world (Issue policy asked) steps =
    (token : Token) × (token_verdict world (token_asked asked) ≡ Ok token)
    × (steps ≡ issues (token_asked asked) (Some (Ok token)) ∷ [])
HasDone world (Prune now) steps = (n : ℕ) × (steps ≡ prunes now (Some n) ∷ [])
HasDone world (Retire repo oid) steps =
    (given : Removal) × IsGone given × (steps ≡ retires (repo_text repo.now) oid.now (Some given) ∷ [])
HasDone world (May asked) steps = (may_begin asked ≡ true) × (steps ≡ [])
HasDone world (CheckPush push) steps = (may_push_all world push ≡ true) × (steps ≡ [])
HasDone world (Foresee asked) steps = HasForetold world asked × (steps ≡ [])
HasDone world _ steps = steps ≡ []

-- the steps of a task that failed: its own one, or none
abbrev pub HasTried : Task → List Event → Type 0
HasTried task steps = (steps ≡ []) ⊎ ((event : Event) × IsStepOf task event × (steps ≡ event ∷ []))

-- what a task did that ended so: after an error the world is as before, unless a removal was not reported; and the fault is one
-- of its own
abbrev pub HasEnded : World → Task → List Event → (kept : World) → Result ⊤ TaskFault → Type 0
HasEnded world task steps kept (Ok done) = HasDone world task steps
HasEnded world task steps kept (Err fault) =
    HasTried task steps × ((kept ≡ world) ⊎ MayFollow task fault) × IsTaskFault world task fault

-- a task ended so: the store was led by its steps
pub record WorksAs {S : Type 0} (g : Ghosts S) (old new : S) (world : World) (task : Task) (ended : Result ⊤ TaskFault) : Type 0 where
  pub done : Works g old new world
  pub end : HasEnded world task (steps_of done.works) done.kept ended
