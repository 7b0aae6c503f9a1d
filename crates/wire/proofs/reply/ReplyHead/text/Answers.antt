use Rattle.wire.proofs.Prelude.{◌++◌, ◌∙◌, ap, not, codes, decimal, ◌==◌, is_empty}
use Rattle.httparse.specs.Ascii.{crlf_bytes}
use Rattle.model.specs.Replies.{line, line_if, phrases, phrase_in}
use Rattle.wire.specs.Replies.{type_of}
use Rattle.wire.proofs.Heads.{joined, empty_is}
use Rattle.wire.proofs.reply.ReplyHead.text.Goals as goal

pub returns : goal.returns
returns c =
    let h = c.args.self.now in
    let status = line (codes "HTTP/1.1 " ++ decimal h.status ++ codes " " ++ phrase_in phrases h.status) in
    let allow = codes "Allow: " ++ h.allow.now in
    let challenge = codes "LFS-Authenticate: Bearer realm=\"Git LFS\"" in
    joined c.push_status.new.text.bytes c.push_type.new.text.bytes c.push_length.new.text.bytes c.push_line_if.new.text.bytes
    c.push_line_if-2.new.text.bytes c.push_line_if-3.new.text.bytes c.push_str.new.self.bytes
    status (type_of h.content) (line (codes "Content-Length: " ++ decimal h.size)) (line_if (not (is_empty h.allow.now)) allow)
    (line_if (h.status == 401) challenge) (line_if h.close (codes "Connection: close")) crlf_bytes
    (c.push_status.ensures.bytes ∙ ap (λ t. t ++ status) c.new-text.ensures) c.push_type.ensures.bytes c.push_length.ensures.bytes
    (c.push_line_if.ensures.bytes ∙ ap (λ v. c.push_length.new.text.bytes ++ line_if (not v) allow) (c.is_empty.ensures ∙ empty_is h.allow.now))
    (c.push_line_if-2.ensures.bytes ∙ ap (λ v. c.push_line_if.new.text.bytes ++ line_if v challenge) c.is_challenge.ensures)
    c.push_line_if-3.ensures.bytes c.push_str.ensures.bytes
