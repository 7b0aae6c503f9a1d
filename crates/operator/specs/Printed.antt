-- What a task prints.
use Rattle.std.specs.Prelude.{◌≡◌, ℕ, ◌++◌, List, [], flat_map, length, map, Option, Result, Ok, Err, IsSorted, if◌then◌else◌, codes, string_bytes, ⊤}
use Rattle.std.specs.Io.KnownBytes.{Appends}
use Rattle.serde_json.specs.Written.{compact_text}
use Rattle.store.specs.declared.state.State.{Ghosts}
use Rattle.names.specs.Names.{repo_text, path_text, user_text}
use Rattle.policy.specs.Values.{policy_view}
use Rattle.policy.specs.declared.policies.Policy.{Policy}
use Rattle.model.specs.Moments.{moment_text}
use Rattle.model.specs.Operator.{removal_of}
use Rattle.model.specs.PushChecks.{path_verdict}
use Rattle.model.specs.Replies.{action_data}
use Rattle.model.specs.RepoState.{ObjectSize, locks_of, objects_of}
use Rattle.model.specs.World.{World, Lock, expired_count}
use Rattle.tables.specs.declared.rows.TokenRow.{TokenRow}
use Rattle.tokens.specs.Issuing.{Offers}
use Rattle.tokens.specs.declared.requests.TokenRequest.{TokenRequest}
use Rattle.uploads.specs.Removing.{HasStaged}
use Rattle.pushcheck.specs.Verdicts.{push_by}
use Rattle.desk.specs.declared.replies.Reply.{Reply}
use Rattle.desk.specs.declared.replies.ReplyBody.{ReplyBody}
use Rattle.desk.specs.declared.replies.ReplyBody.TheVariants.{Empty, Json, Refused, Content}
use Rattle.operator.specs.Escapes.{shown}
use Rattle.operator.specs.Foresights.{Foretells}
use Rattle.operator.specs.Inspections.{inspected_line}
use Rattle.operator.specs.Lines.{content_line, count_line, lock_line, object_line, reply_line, retired_line, token_action, valid_token_line, verdict_line}
use Rattle.operator.specs.Listed.{line}
use Rattle.operator.specs.Tasks.{may_begin}
use Rattle.operator.specs.Tokens.{AreValid, token_cmp}
use Rattle.operator.specs.Usage.{ListsUsage}
use Rattle.operator.specs.declared.escapes.Destination.{Destination}
use Rattle.operator.specs.declared.faults.TaskFault.{TaskFault}
use Rattle.operator.specs.declared.faults.TaskFault.TheVariants.{Reported}
use Rattle.operator.specs.declared.foreseeing.Foresight.{Foresight}
use Rattle.operator.specs.declared.inspecting.Purpose.TheVariants as purpose
use Rattle.operator.specs.declared.inspecting.Purpose.TheVariants.{Check}
use Rattle.operator.specs.declared.pushing.Push.{Push}
use Rattle.operator.specs.declared.tasks.Task.{Task}
use Rattle.operator.specs.declared.tasks.Task.TheVariants.{Issue, Prune, May, CheckPush, Foresee, ListLocks, ListObjects, ListTokens, Usage, CheckObjects, Repair, Sweep, Retire}

-- ---- lists

-- a line for each object
abbrev pub object_lines : List ObjectSize → List ℕ
object_lines objects = flat_map (λ o. line (object_line o.name o.size)) objects

-- a line for each lock
abbrev pub lock_lines : Destination → List Lock → List ℕ
lock_lines destination locks = flat_map (λ l. line (shown destination (lock_line l (moment_text l.at)))) locks

-- a line for each token
abbrev pub token_lines : Destination → List TokenRow → List ℕ
token_lines destination rows =
    flat_map (λ t. line (shown destination (valid_token_line (user_text t.user) t.operation (moment_text t.expires) t.digest))) rows

-- the lines of the tokens for the repository that are valid at the moment, in the order of the list
abbrev pub ListsTokens : Destination → (repo : List ℕ) (now : ℕ) → World → List ℕ → Type 0
ListsTokens destination repo now world text =
    (rows : List TokenRow) × AreValid repo now world rows × IsSorted token_cmp rows × (text ≡ token_lines destination rows)

-- a line for each path of a push, with the verdict on it
abbrev pub verdict_lines : Destination → World → Push → List ℕ
verdict_lines destination world push =
    flat_map
    (λ path. line (shown destination (verdict_line path (path_verdict (policy_view push.policy.now) world (push_by push.user.now push.repo.now push.ref_name.now) path))))
    (map path_text push.paths.items)

-- ---- a foreseen reply

-- the lines of a body: a JSON text, the message of a rule, or the object that is sent
abbrev pub body_lines : Destination → ReplyBody → List ℕ
body_lines destination Empty = []
body_lines destination (Json text) = line (shown destination (string_bytes text))
body_lines destination (Refused text) = line text.now
body_lines destination (Content name size) = line (content_line name size)

-- the lines of a reply
abbrev pub reply_lines : Destination → Reply → List ℕ
reply_lines destination reply = line (reply_line reply.status reply.rule) ++ body_lines destination reply.body

-- the lines of the reply that is foreseen
abbrev pub PrintsForeseen : Destination → World → Foresight → List ℕ → Type 0
PrintsForeseen destination world asked text =
    (reply : Reply) × Foretells world asked (Ok reply) × (text ≡ reply_lines destination reply)

-- ---- a token

-- the line with the token that the definitions issue
abbrev pub PrintsToken : World → Policy → TokenRequest → List ℕ → Type 0
PrintsToken world policy asked text =
    (token : List ℕ) × Offers world asked token
    × (text ≡ line (compact_text (action_data (token_action (policy_view policy) (repo_text asked.repo.now) token))))

-- ---- a number

-- the line with the number of the uploads that were staged
abbrev pub PrintsSwept : {S : Type 0} (g : Ghosts S) → S → List ℕ → Type 0
PrintsSwept g old text = (n : ℕ) × HasStaged g old n × (text ≡ line (count_line (codes "swept") n (codes "uploads")))

-- ---- tasks

-- the text is what the task prints in this world
abbrev pub Prints : {S : Type 0} (g : Ghosts S) → S → S → World → Destination → Task → List ℕ → Type 0
Prints g old new world destination (Issue policy asked) text = PrintsToken world policy.now asked text
Prints g old new world destination (Prune now) text = text ≡ line (count_line (codes "pruned") (expired_count now world) (codes "tokens"))
Prints g old new world destination (May asked) text = text ≡ line (if may_begin asked then codes "yes" else codes "no")
Prints g old new world destination (CheckPush push) text = text ≡ verdict_lines destination world push
Prints g old new world destination (Foresee asked) text = PrintsForeseen destination world asked text
Prints g old new world destination (ListLocks repo) text = text ≡ lock_lines destination (locks_of (repo_text repo.now) world)
Prints g old new world destination (ListObjects repo) text = text ≡ object_lines (objects_of (repo_text repo.now) world)
Prints g old new world destination (ListTokens repo now) text = ListsTokens destination (repo_text repo.now) now world text
Prints g old new world destination (Usage policy now) text = ListsUsage g world old new now (policy_view policy.now).repos text
Prints g old new world destination (CheckObjects terminal) text = text ≡ line (inspected_line Check (length world.objects) 0)
Prints g old new world destination (Repair terminal) text = text ≡ line (inspected_line purpose.Repair (length world.objects) 0)
Prints g old new world destination Sweep text = PrintsSwept g old text
Prints g old new world destination (Retire repo oid) text =
    text ≡ line (retired_line (removal_of world (repo_text repo.now) oid.now) oid.now)

-- known bytes grew by what the task prints
abbrev pub AppendsOutput : {S : Type 0} (g : Ghosts S) → S → S → World → Destination → Task → Option (List ℕ) → Option (List ℕ) → Type 0
AppendsOutput g old new world destination task was is = (text : List ℕ) × Prints g old new world destination task text × Appends was is text

-- this holds if the task did all that it is to do, or reports what is wrong
abbrev pub IfWritten : Result ⊤ TaskFault → Type 0 → Type 0
IfWritten (Ok done) P = P
IfWritten (Err Reported) P = P
IfWritten (Err _) P = ⊤
