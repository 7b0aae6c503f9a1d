-- What the commands print.
use Rattle.std.specs.Prelude.{ℕ, ◌++◌, List, [], take, Option, Some, None, codes, decimal}
use Rattle.hex.specs.Hex.{encode_lower}
use Rattle.names.specs.Rules.{row_of}
use Rattle.names.specs.declared.operations.Operation.{Operation}
use Rattle.names.specs.declared.operations.Operation.TheVariants.{Download, Upload}
use Rattle.names.specs.declared.rules.Rule.{Rule}
use Rattle.model.specs.Policy as model
use Rattle.model.specs.Answers.{Action}
use Rattle.model.specs.Batch.{lfs_href}
use Rattle.model.specs.Operator.{Removal, removed_now, removed_before, no_object}
use Rattle.model.specs.World.{Lock}
use Rattle.model.specs.PushChecks.{PushVerdict, free, denied_by, locked_by}

-- the line of a new token: the server's address for the repository, the token, and how many seconds it is valid
abbrev pub token_action : model.Policy → List ℕ → List ℕ → Action
token_action policy repo token =
    record { href = lfs_href policy.base repo; token = token; expires_in = policy.token_seconds }

-- the line with the verdict on a path
abbrev pub verdict_line : List ℕ → PushVerdict → List ℕ
verdict_line path free = codes "ok: " ++ path
verdict_line path (denied_by row) = codes "denied by row " ++ decimal row ++ codes ": " ++ path
verdict_line path (locked_by owner id) = codes "locked by " ++ owner ++ codes ", id " ++ decimal id ++ codes ": " ++ path

-- the line of a lock, with the text of its moment
abbrev pub lock_line : Lock → List ℕ → List ℕ
lock_line l moment =
    decimal l.id ++ codes " " ++ l.ref ++ codes " " ++ l.owner ++ codes " " ++ moment ++ codes " " ++ l.path

-- the line of an object
abbrev pub object_line : List ℕ → ℕ → List ℕ
object_line name size = name ++ codes " " ++ decimal size

-- the word for an operation
abbrev pub operation_word : Operation → List ℕ
operation_word Download = codes "download"
operation_word Upload = codes "upload"

-- the line of a valid token, with the text of its moment of expiry and the first 8 digits of its digest
abbrev pub valid_token_line : (user : List ℕ) → Operation → (moment digest : List ℕ) → List ℕ
valid_token_line user operation moment digest =
    user ++ codes " " ++ operation_word operation ++ codes " " ++ moment ++ codes " " ++ encode_lower (take 4 digest)

-- the line of a damaged object
abbrev pub damage_line : List ℕ → List ℕ → List ℕ
damage_line repo name = codes "damaged " ++ repo ++ codes " " ++ name

-- the line of an object that was removed because it is damaged
abbrev pub removal_line : List ℕ → List ℕ → List ℕ
removal_line repo name = codes "removed " ++ repo ++ codes " " ++ name

-- the first line of a reply: its status, and the code of the rule that refuses the request, if one does
abbrev pub reply_line : ℕ → Option Rule → List ℕ
reply_line status (Some rule) = decimal status ++ codes " " ++ (row_of rule).code
reply_line status None = decimal status ++ codes " ok"

-- the line of the object that a reply sends
abbrev pub content_line : List ℕ → ℕ → List ℕ
content_line name size = codes "content " ++ name ++ codes " " ++ decimal size

-- the line with a number: a verb, the number, and what is counted
abbrev pub count_line : (verb : List ℕ) (count : ℕ) (noun : List ℕ) → List ℕ
count_line verb count noun = verb ++ codes " " ++ decimal count ++ codes " " ++ noun

-- the words for an object that was removed for good, now or before
abbrev pub retired_words : Removal → List ℕ
retired_words removed_now = codes "retired"
retired_words removed_before = codes "already retired"
retired_words no_object = []

-- the line of an object that was removed for good
abbrev pub retired_line : Removal → (name : List ℕ) → List ℕ
retired_line given name = retired_words given ++ codes " " ++ name
