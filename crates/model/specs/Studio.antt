-- A small studio for the worked examples: its policies, its tokens, and the messages of its members.
use Rattle.std.specs.Prelude.{ℕ, List, [], ◌∷◌, ◌++◌, length, codes, replicate}
use Rattle.httparse.specs.Grammar.{RequestHead, Field, crlf}
use Rattle.model.specs.declared.Form.{Form}
use Rattle.model.specs.declared.Form.TheVariants as form
use Rattle.model.specs.declared.Effect.{Effect}
use Rattle.model.specs.declared.Effect.TheVariants as effect
use Rattle.model.specs.declared.Right.{Right}
use Rattle.model.specs.declared.Right.TheVariants as right
use Rattle.names.specs.declared.operations.Operation.{Operation}
use Rattle.names.specs.declared.operations.Operation.TheVariants as operation
use Rattle.model.specs.Reading.{◌>>=◌}
use Rattle.model.specs.Policy.{Policy, Row}
use Rattle.model.specs.World.{World, Object, Lock, Token, nothing}
use Rattle.model.specs.Forms.{request_of}
use Rattle.model.specs.Callers.{Caller}
use Rattle.model.specs.Cases.{Setting, DeskRequest}
use Rattle.model.specs.Answers.{Answer}
use Rattle.model.specs.Objects.{finish}
use Rattle.model.specs.Verdict.{caller_plan, verdict}
use Rattle.model.specs.Replies.{reply_of, body_text, content_of}

-- ---- policies

-- the one repository
abbrev pub film : List ℕ
film = codes "studio/film"

-- its default ref
abbrev pub main_branch : List ℕ
main_branch = codes "refs/heads/main"

-- the list that holds every text
abbrev pub all : List (List ℕ)
all = codes "*" ∷ []

-- a row for every repository and ref
abbrev pub row_for : Effect → List (List ℕ) → List (List ℕ) → List Right → Row
row_for effect users paths rights =
    record { effect = effect; users = users; repos = all; refs = all; paths = paths; rights = rights }

-- the policy with this quota and these rows
abbrev pub studio_of : ℕ → List Row → Policy
studio_of quota rows = record {
  base = codes "https://lfs.example";
  token_seconds = 3600;
  repos = record { name = film; default_ref = main_branch; quota = quota } ∷ [];
  rows = rows;
}

-- ann and bob have every right but force
abbrev pub members_row : Row
members_row =
    row_for effect.Allow (codes "ann" ∷ codes "bob" ∷ []) all (right.Pull ∷ right.Push ∷ right.List ∷ right.Lock ∷ [])

-- everybody has every right
abbrev pub everybody_row : Row
everybody_row = row_for effect.Allow all all (right.Pull ∷ right.Push ∷ right.List ∷ right.Lock ∷ right.Force ∷ [])

-- the studio's policy
unfoldable pub studio : Policy
studio = studio_of 1000000 (members_row ∷ [])

-- the same with a quota of 5 bytes
unfoldable pub small_studio : Policy
small_studio = studio_of 5 (members_row ∷ [])

-- nobody may lock below art/, and everybody may do everything else
unfoldable pub frozen_art : Policy
frozen_art = studio_of 1000000 (row_for effect.Deny all (codes "art/" ∷ []) (right.Lock ∷ []) ∷ everybody_row ∷ [])

-- ann may push only below art/, and nobody may pull
unfoldable pub paths_alone : Policy
paths_alone = studio_of 1000000 (row_for effect.Allow (codes "ann" ∷ []) (codes "art/" ∷ []) (right.Push ∷ []) ∷ [])

-- everybody may pull, and nobody may push
unfoldable pub readers : Policy
readers = studio_of 1000000 (row_for effect.Allow all all (right.Pull ∷ []) ∷ [])

-- bob may not list b, and everybody may do everything else
unfoldable pub b_is_hidden : Policy
b_is_hidden =
    studio_of 1000000 (row_for effect.Deny (codes "bob" ∷ []) (codes "b" ∷ []) (right.List ∷ []) ∷ everybody_row ∷ [])

-- bob may also force
unfoldable pub forcing : Policy
forcing = studio_of 1000000 (members_row ∷ row_for effect.Allow (codes "bob" ∷ []) all (right.Force ∷ []) ∷ [])

-- ---- tokens and callers

-- 2016-05-17T15:49:06Z
abbrev pub now : ℕ
now = 1463500146

-- a policy at that moment
abbrev pub at_now : Policy → Setting
at_now policy = record { policy = policy; now = now }

-- 64 times a letter
abbrev pub token_of : ℕ → List ℕ
token_of letter = replicate 64 letter

-- ann's upload token, 64 times a
abbrev pub token_until : ℕ → Token
token_until expires =
    record { text = token_of 97; user = codes "ann"; repo = film; operation = operation.Upload; expires = expires }

-- a world with only that token
unfoldable pub with_ann : World
with_ann = record nothing { tokens = token_until 1463503600 ∷ [] }

-- the same, but the token expires at 100
unfoldable pub expires_at_100 : World
expires_at_100 = record nothing { tokens = token_until 100 ∷ [] }

-- the holder of a token of that letter
abbrev pub caller_named : List ℕ → ℕ → Operation → Caller
caller_named user letter op =
    record { token = token_of letter; user = user; repo = film; operation = op; expires = 1463503600 }

-- ann, with an upload token
unfoldable pub ann : Caller
ann = caller_named (codes "ann") 97 operation.Upload

-- bob, with an upload token
unfoldable pub bob : Caller
bob = caller_named (codes "bob") 98 operation.Upload

-- ---- requests at the desk

-- a request: its form, its route's parameter, its query and its body
pub record Asking : Type 0 where
  pub form : Form
  pub parameter : List ℕ
  pub query : List ℕ
  pub body : List ℕ

-- a request with only a body
abbrev pub with_body : Form → List ℕ → Asking
with_body form body = record { form = form; parameter = []; query = []; body = body }

-- a request to store these bytes under a name
abbrev pub put : List ℕ → List ℕ → Asking
put name bytes = record { form = form.Put; parameter = name; query = []; body = bytes }

-- a request for the object of a name
abbrev pub get : List ℕ → Asking
get name = record { form = form.Get; parameter = name; query = []; body = [] }

-- a request for a list of locks
abbrev pub list : List ℕ → Asking
list query = record { form = form.List; parameter = []; query = query; body = [] }

-- a request to release the lock of an id
abbrev pub unlock : List ℕ → List ℕ → Asking
unlock id body = record { form = form.Unlock; parameter = id; query = []; body = body }

-- the request as it comes to the desk; the caller is known already
abbrev pub to_film : Asking → DeskRequest
to_film a = record {
  bearers = [];
  repo = film;
  left = length a.body;
  request = request_of a.form a.parameter a.query a.body;
}

-- the answer to a request of the caller
abbrev pub answer : World → Policy → Caller → Asking → Answer
answer world policy caller a =
    caller_plan world (at_now policy) caller (to_film a) >>= λ plan. finish world film a.body plan

-- the status and the body of the reply
abbrev pub status_and_body : Answer → ℕ × List ℕ
status_and_body given = ((reply_of given).status, body_text (reply_of given).body (content_of given))

-- ---- messages

-- a field
abbrev pub field : List ℕ → List ℕ → Field
field name value = record { name = name; raw = codes " " ++ value; end = crlf }

-- the field with ann's token
abbrev pub authorization : Field
authorization = field (codes "Authorization") (codes "Bearer " ++ token_of 97)

-- the field with the length of the body
abbrev pub length_field : List ℕ → Field
length_field digits = field (codes "Content-Length") digits

-- a target below the repository's routes
abbrev pub lfs : List ℕ → List ℕ
lfs rest = codes "/studio/film.git/info/lfs/" ++ rest

-- a head of HTTP/1.1
abbrev pub head_of : List ℕ → List ℕ → List Field → RequestHead
head_of method target fields = record {
  blank = [];
  method = method;
  target = target;
  minor = 1;
  line_end = crlf;
  fields = fields;
  last = crlf;
}

-- a head that asks for a lock
abbrev pub post_lock : List Field → RequestHead
post_lock fields = head_of (codes "POST") (lfs (codes "locks")) fields

-- the head of ann's request for a lock, with this length of its body
abbrev pub lock_head : List ℕ → RequestHead
lock_head digits = post_lock (authorization ∷ length_field digits ∷ [])

-- ann asks for a lock of art/hero.psd
abbrev pub first_head : RequestHead
first_head = lock_head (codes "23")

-- the 23 bytes of its body
abbrev pub first_body : List ℕ
first_body = codes "{\"path\":\"art/hero.psd\"}"

-- a head with one more field
abbrev pub with_field : Field → RequestHead → RequestHead
with_field f head = record head { fields = f ∷ head.fields }

-- the verdict on a message in the studio
abbrev pub judge : World → RequestHead → List ℕ → Answer
judge world head body = verdict world (at_now studio) head body

-- ---- locks and objects

-- a lock of the repository, made at that moment
abbrev pub lock_by : List ℕ → ℕ → List ℕ → Lock
lock_by owner id path =
    record { repo = film; id = id; ref = main_branch; path = path; owner = owner; at = now }

-- ann's lock of art/hero.psd
unfoldable pub first_lock : Lock
first_lock = lock_by (codes "ann") 1 (codes "art/hero.psd")

-- an object of the repository
abbrev pub object_of : List ℕ → List ℕ → Object
object_of name bytes = record { repo = film; name = name; bytes = bytes }

-- a world with one object
abbrev pub with_one : List ℕ → List ℕ → World
with_one name bytes = record nothing { objects = object_of name bytes ∷ [] }

-- the SHA-256 of hello
abbrev pub hello : List ℕ
hello = codes "2cf24dba5fb0a30e26e83b2ac5b9e29e1b161e5c1fa7425e73043362938b9824"

-- a world whose object hello was removed for good
abbrev pub hello_gone : World
hello_gone = record nothing { retired = record { repo = film; name = hello } ∷ [] }

-- the SHA-256 of abc
abbrev pub abc : List ℕ
abc = codes "ba7816bf8f01cfea414140de5dae2223b00361a396177a9cb410ff61f20015ad"

-- the SHA-256 of no bytes
abbrev pub nil : List ℕ
nil = codes "e3b0c44298fc1c149afbf4c8996fb92427ae41e4649b934ca495991b7852b855"

-- ---- texts of replies

-- lines, each ended by CR LF, and an empty one
abbrev pub lines : List (List ℕ) → List ℕ
lines [] = codes "\r\n"
lines (l ∷ ls) = l ++ codes "\r\n" ++ lines ls

-- the first lines of a reply with JSON
abbrev pub json_head : List ℕ → List ℕ → List (List ℕ) → List ℕ
json_head status size more =
    lines ((codes "HTTP/1.1 " ++ status) ∷ codes "Content-Type: application/vnd.git-lfs+json"
    ∷ (codes "Content-Length: " ++ size) ∷ more)

-- the line that says that the server closes
abbrev pub close_line : List ℕ
close_line = codes "Connection: close"

-- the line that asks for a token
abbrev pub bearer_line : List ℕ
bearer_line = codes "LFS-Authenticate: Bearer realm=\"Git LFS\""

-- a body with only a message
abbrev pub message_of : List ℕ → List ℕ
message_of text = codes "{\"message\":\"" ++ text ++ codes "\"}"

-- a lock
abbrev pub lock_text : List ℕ → List ℕ → List ℕ → List ℕ
lock_text id owner path =
    codes "{\"id\":\"" ++ id ++ codes "\",\"locked_at\":\"2016-05-17T15:49:06Z\",\"owner\":{\"name\":\"" ++ owner
    ++ codes "\"},\"path\":\"" ++ path ++ codes "\"}"
