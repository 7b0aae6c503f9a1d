-- The text of a reply, all of it or a part, as it is written.
use Rattle.std.specs.Prelude.{◌≡◌, ◌≢◌, ◌<◌, ℕ, Bool, List, [], ◌++◌, length, take, Option, Some, option_map, Result, Ok, Err}
use Rattle.std.specs.Io.KnownBytes.{Appends}
use Rattle.names.specs.Streams.{IsBeginning}
use Rattle.std.specs.Borrow.{Bor}
use Rattle.names.specs.Names.{repo_text}
use Rattle.names.specs.declared.texts.RepoName.{RepoName}
use Rattle.model.specs.World.{World, Object, object_named}
use Rattle.model.specs.Answers.{Answer, serves}
use Rattle.model.specs.Replies.{Reply, reply_of, reply_text, head_text, body_text}
use Rattle.service.specs.declared.sending.SendFault.{SendFault}
use Rattle.service.specs.declared.sending.SendFault.TheVariants.{Sink, Store}

-- the text of a reply, without the content of an object
abbrev pub front_text : Reply → List ℕ → Bool → List ℕ
front_text r allow close = head_text r allow close ++ body_text r.body []

-- an object that the answer serves is the repository's of its name
abbrev pub IsThere : World → Option (Bor RepoName) → Answer → Type 0
IsThere world repo given = (o : Object) → given ≡ Ok (serves o)
    → (name : List ℕ) × (option_map (λ r. repo_text r.now) repo ≡ Some name) × (object_named name o.name world ≡ Some o)

-- the text was written, all of it or, if the result is an error, a prefix
abbrev pub Writes : {T E : Type 0} → List ℕ → Option (List ℕ) → Option (List ℕ) → Result T E → Type 0
Writes text was is (Ok x) = Appends was is text
Writes text was is (Err e) = (written : ℕ) × IsBeginning was is text written

-- the result after this number of bytes of a content was written, and no write failed: it is an error unless that is its size
abbrev pub EndsContent : {T : Type 0} → (written size : ℕ) → Result T SendFault → Type 0
EndsContent written size (Ok x) = written ≡ size
EndsContent written size (Err Store) = written ≢ size
EndsContent written size (Err Sink) = ⊥

-- the answer serves an object; the head of the reply and a prefix of the object, not all of it, were written
pub record BreaksOff (given : Answer) (allow : List ℕ) (close : Bool) (was is : Option (List ℕ)) : Type 0 where
  pub object : Object
  pub serving : given ≡ Ok (serves object)
  pub written : ℕ
  pub less : written < length object.bytes
  pub taken : Appends was is (head_text (reply_of given) allow close ++ take written object.bytes)

-- the reply to the answer was written: all of it, a prefix if a write failed, or less than its content if the store failed
abbrev pub Sends :
    {T : Type 0} → Answer → List ℕ → Bool → Option (List ℕ) → Option (List ℕ) → Result T SendFault → Type 0
Sends given allow close was is (Ok x) = Appends was is (reply_text given allow close)
Sends given allow close was is (Err Sink) = (written : ℕ) × IsBeginning was is (reply_text given allow close) written
Sends given allow close was is (Err Store) = BreaksOff given allow close was is
