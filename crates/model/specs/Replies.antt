-- The text of a reply (RFC 9112, Message Format; Git LFS API).
use Rattle.std.specs.Prelude.{ℕ, Bool, true, false, ◌==◌, not, List, [], ◌∷◌, ◌++◌, length, map, filter, codes, decimal, if◌then◌else◌, Option, Some, None, Result, Ok, Err}
use Rattle.httparse.specs.Ascii.{crlf_bytes}
use Rattle.serde_json.specs.Data.{Data, boolean, string, number, unsigned, array, object, Items, no_items, item, Members, no_members, member}
use Rattle.serde_json.specs.Written.{compact_text}
use Rattle.names.specs.Texts.{is_empty}
use Rattle.names.specs.Rules.{row_of}
use Rattle.names.specs.declared.rules.Rule.{Rule}
use Rattle.names.specs.declared.rules.Rule.TheVariants.{P, L1}
use Rattle.model.specs.declared.Right.{Right}
use Rattle.model.specs.declared.Right.TheVariants as right
use Rattle.model.specs.Reading.{or_default}
use Rattle.model.specs.World.{Lock}
use Rattle.model.specs.Moments.{moment_text}
use Rattle.model.specs.Callers.{is_own}
use Rattle.model.specs.Answers.{Denial, by_rule, by_row, by_lock, Answer, Grant, offers, serves, stores, confirms, makes_lock, lists, splits, releases, Page, Offer, Actions, downloads, uploads, is_stored, Action}

-- ---- messages

-- the name of a right
abbrev pub right_text : Right → List ℕ
right_text right.Pull = codes "pull"
right_text right.Push = codes "push"
right_text right.List = codes "list"
right_text right.Lock = codes "lock"
right_text right.Force = codes "force"

-- why a row of the policy denies the right; row 0 is no row
abbrev pub row_reason : ℕ → Right → List ℕ
row_reason n asked = if n == 0 then codes "no policy row allows " ++ right_text asked
    else codes "policy row " ++ decimal n ++ codes " denies " ++ right_text asked

-- a rule's code and a reason
abbrev pub with_code : Rule → List ℕ → List ℕ
with_code rule reason = (row_of rule).code ++ codes ": " ++ reason

-- the message of a rule
abbrev pub rule_message : Rule → List ℕ
rule_message rule = with_code rule (or_default (row_of rule).reason [])

-- the message of a denial by the policy
abbrev pub row_message : ℕ → Right → List ℕ
row_message n asked = with_code (P n) (row_reason n asked)

-- the rule that a reply to this denial names
abbrev pub rule_of : Denial → Rule
rule_of (by_rule rule) = rule
rule_of (by_row n right status) = P n
rule_of (by_lock l) = L1

-- the status of a rule; that of the policy's rows is in the denial
abbrev pub rule_status : Rule → ℕ
rule_status rule = or_default (row_of rule).status 403

-- ---- JSON bodies; their keys are in the order of their bytes

-- the values as items of an array
abbrev pub items_of : List Data → Items
items_of [] = no_items
items_of (value ∷ values) = item value (items_of values)

-- the pairs as members of an object
abbrev pub members : List (List ℕ × Data) → Members
members [] = no_members
members (m ∷ ms) = member m.0 m.1 (members ms)

-- a lock
abbrev pub lock_data : Lock → Data
lock_data l = object (members (
    (codes "id", string (decimal l.id))
    ∷ (codes "locked_at", string (moment_text l.at))
    ∷ (codes "owner", object (members ((codes "name", string l.owner) ∷ [])))
    ∷ (codes "path", string l.path) ∷ []))

-- an array of locks
abbrev pub locks_data : List Lock → Data
locks_data locks = array (items_of (map lock_data locks))

-- the members with next_cursor first, if there is a next lock
abbrev pub next_member : Option ℕ → Members → Members
next_member (Some id) ms = member (codes "next_cursor") (string (decimal id)) ms
next_member None ms = ms

-- the body for one lock
abbrev pub lock_json : Lock → Data
lock_json l = object (members ((codes "lock", lock_data l) ∷ []))

-- the body for a path that is already locked: its lock, and the message of L1
abbrev pub conflict_json : Lock → Data
conflict_json l = object (members ((codes "lock", lock_data l) ∷ (codes "message", string (rule_message L1)) ∷ []))

-- the body with only a message
abbrev pub message_json : List ℕ → Data
message_json text = object (members ((codes "message", string text) ∷ []))

-- the body for a page of locks
abbrev pub list_json : Page → Data
list_json page = object (member (codes "locks") (locks_data page.locks) (next_member page.next no_members))

-- the body for a page of locks, the caller's own apart, both in the page's order
abbrev pub split_json : List ℕ → Page → Data
split_json user page = object (next_member page.next (members (
    (codes "ours", locks_data (filter (is_own user) page.locks))
    ∷ (codes "theirs", locks_data (filter (λ l. not (is_own user l)) page.locks)) ∷ [])))

-- an action, with the header that it needs
abbrev pub action_data : Action → Data
action_data action = object (members (
    (codes "expires_in", number (unsigned action.expires_in))
    ∷ (codes "header", object (members ((codes "Authorization", string (codes "Bearer " ++ action.token)) ∷ [])))
    ∷ (codes "href", string action.href) ∷ []))

-- the name and the size of a batch's object, as given
abbrev pub offer_end : Offer → List (List ℕ × Data)
offer_end offer = (codes "oid", string offer.oid) ∷ (codes "size", number (unsigned offer.size)) ∷ []

-- the members after the actions
abbrev pub offer_rest : Offer → List (List ℕ × Data)
offer_rest offer = (codes "authenticated", boolean true) ∷ offer_end offer

-- the error of an object of a batch
abbrev pub error_data : Rule → Data
error_data rule = object (members (
    (codes "code", number (unsigned (rule_status rule))) ∷ (codes "message", string (rule_message rule)) ∷ []))

-- the actions of an object of a batch
abbrev pub actions_data : List (List ℕ × Data) → Data
actions_data actions = object (members actions)

-- an object of a batch: with an error, already stored, or with its actions
abbrev pub offer_members : Offer → Result Actions Rule → List (List ℕ × Data)
offer_members offer (Err rule) = (codes "error", error_data rule) ∷ offer_end offer
offer_members offer (Ok is_stored) = offer_rest offer
offer_members offer (Ok (downloads download)) =
    (codes "actions", actions_data ((codes "download", action_data download) ∷ [])) ∷ offer_rest offer
offer_members offer (Ok (uploads upload verify)) =
    (codes "actions", actions_data ((codes "upload", action_data upload) ∷ (codes "verify", action_data verify) ∷ []))
    ∷ offer_rest offer

-- an object of a batch
abbrev pub offer_data : Offer → Data
offer_data offer = object (members (offer_members offer offer.actions))

-- the body for a batch
abbrev pub batch_json : List Offer → Data
batch_json some = object (members (
    (codes "hash_algo", string (codes "sha256"))
    ∷ (codes "objects", array (items_of (map offer_data some)))
    ∷ (codes "transfer", string (codes "basic")) ∷ []))

-- ---- replies

-- the body of a reply: none, JSON, or the content of that name and size, whose bytes are not here
pub data Body : Type 0 where
  empty : Body
  json : List ℕ → Body
  content : (name : List ℕ) (size : ℕ) → Body

-- a reply; rule is the one that refused, if one did
pub record Reply : Type 0 where
  pub status : ℕ
  pub rule : Option Rule
  pub body : Body

-- a reply to a grant
abbrev pub reply : ℕ → Body → Reply
reply status body = record { status = status; rule = None; body = body }

-- a reply to a grant, with JSON
abbrev pub reply_json : ℕ → Data → Reply
reply_json status value = reply status (json (compact_text value))

-- the reply to each grant
abbrev pub grant_reply : Grant → Reply
grant_reply (offers some) = reply_json 200 (batch_json some)
grant_reply (serves o) = reply 200 (content o.name (length o.bytes))
grant_reply (stores o) = reply 200 empty
grant_reply confirms = reply 200 empty
grant_reply (makes_lock l) = reply_json 201 (lock_json l)
grant_reply (lists page) = reply_json 200 (list_json page)
grant_reply (splits user page) = reply_json 200 (split_json user page)
grant_reply (releases l) = reply_json 200 (lock_json l)

-- the status of a denial
abbrev pub denial_status : Denial → ℕ
denial_status (by_row n right status) = status
denial_status (by_rule rule) = rule_status rule
denial_status (by_lock l) = rule_status L1

-- the body of a denial
abbrev pub denial_json : Denial → Data
denial_json (by_row n right status) = message_json (row_message n right)
denial_json (by_rule rule) = message_json (rule_message rule)
denial_json (by_lock l) = conflict_json l

-- the reply to an answer
abbrev pub reply_of : Answer → Reply
reply_of (Ok grant) = grant_reply grant
reply_of (Err denial) = record {
  status = denial_status denial;
  rule = Some (rule_of denial);
  body = json (compact_text (denial_json denial));
}

-- the bytes of the content that an answer serves
abbrev pub content_of : Answer → List ℕ
content_of (Ok (serves o)) = o.bytes
content_of _ = []

-- ---- heads of replies

-- the phrases of the statuses (RFC 9110, Status Codes; 507: RFC 4918)
abbrev pub phrases : List (ℕ × List ℕ)
phrases =
    (200, codes "OK") ∷ (201, codes "Created") ∷ (400, codes "Bad Request") ∷ (401, codes "Unauthorized")
    ∷ (403, codes "Forbidden") ∷ (404, codes "Not Found") ∷ (405, codes "Method Not Allowed")
    ∷ (406, codes "Not Acceptable") ∷ (409, codes "Conflict") ∷ (410, codes "Gone") ∷ (411, codes "Length Required")
    ∷ (413, codes "Content Too Large") ∷ (422, codes "Unprocessable Content")
    ∷ (500, codes "Internal Server Error") ∷ (501, codes "Not Implemented") ∷ (507, codes "Insufficient Storage") ∷ []

-- the phrase of a status
abbrev pub phrase_in : List (ℕ × List ℕ) → ℕ → List ℕ
phrase_in [] status = []
phrase_in (p ∷ ps) status = if p.0 == status then p.1 else phrase_in ps status

-- a line of a head
abbrev pub line : List ℕ → List ℕ
line text = text ++ crlf_bytes

-- a line, if it is wanted
abbrev pub line_if : Bool → List ℕ → List ℕ
line_if true text = line text
line_if false text = []

-- the line with the type of the body
abbrev pub type_line : Body → List ℕ
type_line (json text) = line (codes "Content-Type: application/vnd.git-lfs+json")
type_line (content name size) = line (codes "Content-Type: application/octet-stream")
type_line empty = []

-- the length of a body
abbrev pub body_size : Body → ℕ
body_size (json text) = length text
body_size (content name size) = size
body_size empty = 0

-- what the head of a reply says: its status, the line with the type of the body and the size of the body, the methods
-- of Allow, if there are any, and whether the server closes after the reply
pub record ReplyHead : Type 0 where
  pub status : ℕ
  pub type : List ℕ
  pub size : ℕ
  pub allow : List ℕ
  pub close : Bool

-- the lines of the head of a reply
abbrev pub head_lines : ReplyHead → List ℕ
head_lines h =
    line (codes "HTTP/1.1 " ++ decimal h.status ++ codes " " ++ phrase_in phrases h.status)
    ++ h.type
    ++ line (codes "Content-Length: " ++ decimal h.size)
    ++ line_if (not (is_empty h.allow)) (codes "Allow: " ++ h.allow)
    ++ line_if (h.status == 401) (codes "LFS-Authenticate: Bearer realm=\"Git LFS\"")
    ++ line_if h.close (codes "Connection: close")
    ++ crlf_bytes

-- the head of a reply; allow lists methods, if there are any, and close says whether the server closes after it
unfoldable pub head_text : Reply → List ℕ → Bool → List ℕ
head_text r allow close = head_lines (record {
  status = r.status;
  type = type_line r.body;
  size = body_size r.body;
  allow = allow;
  close = close;
})

-- the bytes of a body: its JSON, or the content's
abbrev pub body_text : Body → List ℕ → List ℕ
body_text empty bytes = []
body_text (json text) bytes = text
body_text (content name size) bytes = bytes

-- the whole text of the reply to an answer
abbrev pub reply_text : Answer → List ℕ → Bool → List ℕ
reply_text given allow close =
    let r = reply_of given in head_text r allow close ++ body_text r.body (content_of given)
