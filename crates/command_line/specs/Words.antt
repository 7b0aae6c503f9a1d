-- The words of an operator's command, as a request to a running server has them.
use Rattle.std.specs.Prelude.{◌≢◌, ◌≤◌, ℕ, List, [], ◌∷◌, Option, Some, None, codes, decimal, IsTrue, IfSome, ⊤}
use Rattle.names.specs.Texts.{is_hex_64, last_moment}
use Rattle.names.specs.Names.{user_text, repo_text, ref_text}
use Rattle.names.specs.declared.operations.Operation.{Operation}
use Rattle.names.specs.declared.operations.Operation.TheVariants.{Download, Upload}
use Rattle.policy.specs.declared.access.Access.{Access}
use Rattle.policy.specs.declared.access.Access.TheVariants.{Pull, Push}
use Rattle.command_line.specs.declared.args.OperatorCommand.{OperatorCommand}
use Rattle.command_line.specs.declared.args.OperatorCommand.TheVariants.{Authenticate, Tokens, Prune, May, PushCheck, Foresee, Locks, Objects, Usage, Check, Repair, Sweep, Retire, Status, Hold, Reload, Stop}

-- the word of an operation
abbrev pub operation_word : Operation → List ℕ
operation_word Download = codes "download"
operation_word Upload = codes "upload"

-- the word of what Git asks for
abbrev pub access_word : Access → List ℕ
access_word Pull = codes "pull"
access_word Push = codes "push"

-- the word of a moment, in decimal; no word if no moment is named
abbrev pub moment_words : Option ℕ → List (List ℕ)
moment_words None = []
moment_words (Some moment) = decimal moment ∷ []

-- the words of a command: its name, and then its arguments
abbrev pub command_words : OperatorCommand → List (List ℕ)
command_words (Authenticate args) = codes "authenticate" ∷ user_text args.user ∷ args.path.now ∷ operation_word args.operation ∷ moment_words args.now
command_words (Tokens args) = codes "tokens" ∷ repo_text args.repo ∷ moment_words args.now
command_words (Prune moment) = codes "prune" ∷ moment_words moment
command_words (May args) = codes "may" ∷ user_text args.user ∷ repo_text args.repo ∷ access_word args.access ∷ []
command_words (PushCheck args) = codes "pushcheck" ∷ user_text args.user ∷ repo_text args.repo ∷ ref_text args.ref_name ∷ []
command_words (Foresee args) = codes "foresee" ∷ user_text args.user ∷ repo_text args.repo ∷ moment_words args.now
command_words (Locks repo) = codes "locks" ∷ repo_text repo ∷ []
command_words (Objects repo) = codes "objects" ∷ repo_text repo ∷ []
command_words (Usage moment) = codes "usage" ∷ moment_words moment
command_words Check = codes "check" ∷ []
command_words Repair = codes "repair" ∷ []
command_words Sweep = codes "sweep" ∷ []
command_words (Retire args) = codes "retire" ∷ repo_text args.repo ∷ args.oid ∷ []
command_words Status = codes "status" ∷ []
command_words (Hold seconds) = codes "hold" ∷ decimal seconds ∷ []
command_words Reload = codes "reload" ∷ []
command_words Stop = codes "stop" ∷ []

-- the moment is in range, if one is named
abbrev pub IsMoment : Option ℕ → Type 0
IsMoment moment = IfSome moment (λ second. second ≤ last_moment)

-- a server may be held for 1 to 600 seconds
abbrev pub IsHold : ℕ → Type 0
IsHold seconds = (1 ≤ seconds) × (seconds ≤ 600)

-- the values of the command are in their ranges, as in each command that the program has
abbrev pub IsCommand : OperatorCommand → Type 0
IsCommand (Authenticate args) = IsMoment args.now
IsCommand (Tokens args) = IsMoment args.now
IsCommand (Prune moment) = IsMoment moment
IsCommand (Foresee args) = IsMoment args.now
IsCommand (Usage moment) = IsMoment moment
IsCommand (Retire args) = IsTrue (is_hex_64 args.oid)
IsCommand (Hold seconds) = IsHold seconds
IsCommand _ = ⊤

-- no command has these words
abbrev pub AreNoCommand : List (List ℕ) → Type 0
AreNoCommand words = (command : OperatorCommand) → IsCommand command → words ≢ command_words command
