-- The head of a reply, in the terms of the definitions.
use Rattle.std.specs.Prelude.{ℕ, List, []}
use Rattle.model.specs.Replies.{empty, json, content, type_line, head_lines}
use Rattle.wire.specs.declared.reply.ReplyHead.{ReplyHead}
use Rattle.wire.specs.declared.reply.Content.{Content}
use Rattle.wire.specs.declared.reply.Content.TheVariants.{Json, Octets, Empty}

-- the line with the type of the body
abbrev pub type_of : Content → List ℕ
type_of Json = type_line (json [])
type_of Octets = type_line (content [] 0)
type_of Empty = type_line empty

-- the text of the head
abbrev pub head_of : ReplyHead → List ℕ
head_of h =
    head_lines (record { status = h.status; type = type_of h.content; size = h.size; allow = h.allow.now; close = h.close })
