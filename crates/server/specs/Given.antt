-- The message that a command is given.
use Rattle.std.specs.Prelude.{◌≡◌, ℕ, List, Ok, string_bytes}
use Rattle.names.specs.Names.{repo_text}
use Rattle.names.specs.declared.texts.RepoName.{RepoName}
use Rattle.forms.specs.declared.request.Request.{Request}
use Rattle.service.specs.Reading.{IsWhole}
use Rattle.server.specs.declared.foreseeing.GivenMessage.{GivenMessage}

-- the message is at the front of the bytes, no rule before the token refuses it, and it asks about the repository
pub record IsGiven (bytes : List ℕ) (repo : RepoName) (m : GivenMessage) : Type 0 where
  pub request : Request
  pub read : m.request ≡ Ok request
  pub whole : IsWhole bytes (record { asked = m.asked; request = request; body = m.body })
  pub about : string_bytes m.asked.repo ≡ repo_text repo
