use Rattle.service.proofs.Prelude.{◌∙◌, ap, body_size, type_line}
use Rattle.wire.specs.Replies.{type_of}
use Rattle.service.proofs.Sent.{head_is}
use Rattle.service.proofs.sending.head_for.Goals as goal

pub returns-clause-text : goal.returns-clause-text
returns-clause-text c r is_reply =
    head_is r c.args.reply.now.status (type_of c.kind_of.result) c.length_of.result c.args.allow.now c.args.close is_reply.status (c.kind_of.ensures ∙ ap type_line is_reply.body) (c.length_of.ensures ∙ ap body_size is_reply.body)
