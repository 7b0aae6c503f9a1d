use Rattle.service.proofs.Prelude.{◌≡◌, ◌∙◌, ◌++◌, ap, List, ℕ, ap₂, subst, [], Appends, IsBeginning, IsReply, body_text, front_text}
use Rattle.model.specs.Replies as model
use Rattle.wire.specs.Replies.{head_of}
use Rattle.service.proofs.Sent.{on_ok, if_err}
use Rattle.service.proofs.sending.send_reply.Given.{Over}
use Rattle.service.proofs.sending.send_reply.Goals as goal

said : (g : Over) (c : goal.After-write_reply g) (r : model.Reply) → IsReply c.args.reply.now r → (head_of c.head_for-head.result ++ c.bytes_of.result.now) ≡ front_text r c.args.allow.now c.args.close
said g c r is_reply = ap₂ (λ (a b : List ℕ). a ++ b) (c.head_for-head.ensures.text r is_reply) (c.bytes_of.ensures ∙ ap (λ b. body_text b []) is_reply.body)

pub returns-clause-ok : goal.returns-clause-ok
returns-clause-ok g c =
    on_ok _ _ c.write_reply.result (λ wrote r is_reply. subst (λ (t : List ℕ). Appends (g.K.Sink.taken c.args.sink.now) (g.K.Sink.taken c.write_reply.new.sink) t) (said g c r is_reply) wrote) c.write_reply.ensures.ok

pub returns-clause-part : goal.returns-clause-part
returns-clause-part g c =
    if_err _ _ c.write_reply.result (λ e part r is_reply. subst (λ (t : List ℕ). IsBeginning (g.K.Sink.taken c.args.sink.now) (g.K.Sink.taken c.write_reply.new.sink) t e.written) (said g c r is_reply) part)
    c.write_reply.ensures.part
