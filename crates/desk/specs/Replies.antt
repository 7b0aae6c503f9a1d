-- A reply, in the terms of the definitions.
use Rattle.std.specs.Prelude.{◌≡◌, Bool, false, Option, Some, None, string_bytes, if◌then◌else◌}
use Rattle.names.specs.declared.rules.Rule.{Rule}
use Rattle.model.specs.Answers.{Answer, is_s1, store_refusal}
use Rattle.model.specs.Replies as model
use Rattle.model.specs.Replies.{reply_of, empty, json, content}
use Rattle.desk.specs.declared.replies.ReplyBody.{ReplyBody}
use Rattle.desk.specs.declared.replies.ReplyBody.TheVariants.{Empty, Json, Refused, Content}
use Rattle.desk.specs.declared.replies.Reply.{Reply}

-- the body
abbrev pub body_seen : ReplyBody → model.Body
body_seen Empty = empty
body_seen (Json text) = json (string_bytes text)
body_seen (Refused text) = json text.now
body_seen (Content name size) = content name size

-- the reply is this one of the definitions
pub record IsReply (reply : Reply) (is : model.Reply) : Type 0 where
  pub status : reply.status ≡ is.status
  pub rule : reply.rule ≡ is.rule
  pub body : body_seen reply.body ≡ is.body

-- the reply shows this answer
abbrev pub IsReplyOf : Reply → Answer → Type 0
IsReplyOf reply given = IsReply reply (reply_of given)

-- the rule is that of the store refusal
abbrev pub is_s1_if : Option Rule → Bool
is_s1_if (Some rule) = is_s1 rule
is_s1_if None = false

-- the reply is the store refusal
abbrev pub is_refused : Reply → Bool
is_refused reply = is_s1_if reply.rule

-- the answer that a reply gives to a request with this verdict: the verdict, or the store refusal
abbrev pub given_in : Answer → Reply → Answer
given_in verdict reply = if is_refused reply then store_refusal else verdict

-- the reply shows the verdict, or is the store refusal
abbrev pub ShowsIf : Answer → Reply → Type 0
ShowsIf verdict reply = IsReplyOf reply (given_in verdict reply)
