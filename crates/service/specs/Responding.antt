-- The response to a message, by what the desk did.
use Rattle.std.specs.Prelude.{◌≡◌, Bool, not, ◌&&◌, ◌||◌, [], Option, Result, is_err, ⊤}
use Rattle.std.specs.Borrow.{Bor}
use Rattle.names.specs.declared.rules.Rule.{Rule}
use Rattle.names.specs.declared.texts.RepoName.{RepoName}
use Rattle.model.specs.declared.Form.{Form}
use Rattle.forms.specs.declared.request.Request.{Request}
use Rattle.desk.specs.Replies.{is_refused}
use Rattle.desk.specs.declared.replies.Reply.{Reply}
use Rattle.service.specs.Judging.{is_put}
use Rattle.service.specs.declared.ends.End.{End}
use Rattle.service.specs.declared.ends.End.TheVariants.{InputEnded, Closed, StoreRefused, ReadFailed, WriteFailed, StoreFailed}
use Rattle.service.specs.declared.message.Asked.{Asked}
use Rattle.service.specs.declared.responding.Response.{Response}

-- the content of an upload is unread: a rule refused the request, or the desk says so
abbrev pub leaves_body : Form → Result Request Rule → Reply → Bool
leaves_body form request reply = is_put form && (is_err request || not reply.body_read)

-- the desk's reply, after which the connection closes if the message is the last, its body is unread, or the store refused
pub record RespondsWith (a : Asked) (request : Result Request Rule) (place : Option (Bor RepoName)) (told : Reply) (r : Response) : Type 0 where
  pub reply : r.reply ≡ told
  pub repo : r.repo ≡ place
  pub allow : r.allow.now ≡ []
  pub close : r.close ≡ (a.is_last || leaves_body a.form request told || is_refused told)

-- the input ended, or a read failed
abbrev pub IsEarly : End → Type 0
IsEarly InputEnded = ⊤
IsEarly ReadFailed = ⊤
IsEarly Closed = ⊥
IsEarly StoreRefused = ⊥
IsEarly WriteFailed = ⊥
IsEarly StoreFailed = ⊥
