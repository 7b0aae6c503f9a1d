-- Worked examples: the results of the definitions in small cases.
use Rattle.std.specs.Prelude.{⊤, ◌≡◌, ℕ, true, false, List, [], ◌∷◌, ◌++◌, length, Some, None, Result, Ok, Err, codes, replicate, flat_map}
use Rattle.httparse.specs.Grammar.{RequestHead, Field, print_request}
use Rattle.names.specs.declared.rules.Rule.{Rule}
use Rattle.names.specs.declared.rules.Rule.TheVariants as rule
use Rattle.model.specs.declared.Form.{Form}
use Rattle.model.specs.declared.Form.TheVariants as form
use Rattle.model.specs.declared.Right.TheVariants as right
use Rattle.names.specs.declared.operations.Operation.TheVariants as operation
use Rattle.model.specs.World.{World, nothing, with_lock, without_lock, with_object, without_expired}
use Rattle.model.specs.Heads.{Target, values, head_verdict, route_at, methods_of}
use Rattle.model.specs.Callers.{caller_by}
use Rattle.model.specs.Cases.{DeskRequest}
use Rattle.model.specs.Answers.{Answer, Denial, by_rule, by_row, by_lock, makes_lock, stores, confirms, releases, may_push, store_refusal}
use Rattle.model.specs.Verdict.{caller_plan, desk_plan, desk_request, early_check}
use Rattle.model.specs.Operator.{TokenRequest, token_verdict, after_token, already_issued, expires_too_late, removed_now, removed_before, no_object, retire_outcome}
use Rattle.model.specs.Steps.{Message, message, bad_head, verdict_on, closes_after, Exchange}
use Rattle.model.specs.Moments.{moment_text}
use Rattle.model.specs.Stream.{BeginsWith}
use Rattle.model.specs.Replies.{reply_text}
use Rattle.model.specs.Sessions.{Session, InputEnded, Closed, IsSession, text_if}
use Rattle.model.specs.Studio.{film, main_branch, studio, small_studio, frozen_art, paths_alone, readers, b_is_hidden, forcing, now, at_now, token_of, with_ann, expires_at_100, caller_named, ann, bob, Asking, with_body, put, get, list, unlock, answer, status_and_body, field, authorization, length_field, lfs, head_of, post_lock, first_head, first_body, with_field, judge, lock_by, first_lock, object_of, with_one, hello, hello_gone, abc, nil, lines, json_head, close_line, bearer_line, message_of, lock_text}

-- ---- a lock, and the same request again

-- the reply to the first request for a lock
unfoldable pub first_reply : List ℕ
first_reply =
    json_head (codes "201 Created") (codes "99") [] ++ codes "{\"lock\":"
    ++ lock_text (codes "1") (codes "ann") (codes "art/hero.psd") ++ codes "}"

-- the reply to the second
unfoldable pub second_reply : List ℕ
second_reply =
    json_head (codes "409 Conflict") (codes "142") [] ++ codes "{\"lock\":"
    ++ lock_text (codes "1") (codes "ann") (codes "art/hero.psd")
    ++ codes ",\"message\":\"L1: the path is already locked\"}"

-- the text of the reply to a message in the studio
abbrev pub reply_in : World → Message → List ℕ
reply_in world asked = text_if asked (verdict_on world (at_now studio) asked)

-- the bytes of the first message, followed by any bytes, begin with the first message
abbrev pub FirstIsFirst : Type 0
FirstIsFirst =
    (rest : List ℕ)
    → BeginsWith (print_request first_head ++ first_body ++ rest) (message first_head first_body true) rest

-- it makes the lock of id 1, and its reply has 187 bytes
abbrev pub FirstIsLocked : Type 0
FirstIsLocked =
    (judge with_ann first_head first_body ≡ Ok (makes_lock first_lock))
    × (reply_in with_ann (message first_head first_body true) ≡ first_reply) × (length first_reply ≡ 187)

-- the same message again finds the lock (L1), and its reply has 232 bytes
abbrev pub SecondIsRefused : Type 0
SecondIsRefused =
    let world = with_lock first_lock with_ann in
    (judge world first_head first_body ≡ Err (by_lock first_lock))
    × (reply_in world (message first_head first_body true) ≡ second_reply) × (length second_reply ≡ 232)

-- on another ref the path is free, and the lock has the next id; if no id is left, the answer is L5
abbrev pub OtherRefIsLocked : Type 0
OtherRefIsLocked =
    let asked = with_body form.Lock (codes "{\"path\":\"art/hero.psd\",\"ref\":{\"name\":\"refs/heads/dev\"}}") in
    let other = record (lock_by (codes "ann") 2 (codes "art/hero.psd")) { ref = codes "refs/heads/dev" } in
    (answer (with_lock first_lock nothing) studio ann asked ≡ Ok (makes_lock other))
    × (answer (record nothing { made = λ _. 4294967295 }) studio ann asked ≡ Err (by_rule rule.L5))

-- ---- sessions

-- the first message twice
abbrev pub two_messages : List ℕ
two_messages = print_request first_head ++ first_body ++ print_request first_head ++ first_body

-- its first exchange
abbrev pub first_exchange : Exchange
first_exchange = record {
  setting = at_now studio;
  asked = message first_head first_body true;
  given = Some (Ok (makes_lock first_lock));
}

-- its second exchange
abbrev pub second_exchange : Exchange
second_exchange = record first_exchange { given = Some (Err (by_lock first_lock)) }

-- the session of a connection with these bytes
abbrev pub session_of : List ℕ → List Exchange → List ℕ → ℕ → Session
session_of bytes exchanges written answered = record {
  setting = at_now studio;
  bytes = bytes;
  exchanges = exchanges;
  written = written;
  answered = answered;
}

-- two messages are a run: the lock is made, and then it is found
abbrev pub TwoAreServed : Type 0
TwoAreServed =
    IsSession (session_of two_messages (first_exchange ∷ second_exchange ∷ []) (first_reply ++ second_reply) 2)
    InputEnded with_ann (with_lock first_lock with_ann)

-- an upload whose body is the first message, without a token
abbrev pub smuggling_head : RequestHead
smuggling_head = head_of (codes "PUT") (lfs (codes "content/" ++ hello)) (length_field (codes "180") ∷ [])

-- the reply to it
unfoldable pub smuggling_reply : List ℕ
smuggling_reply =
    json_head (codes "401 Unauthorized") (codes "42") (bearer_line ∷ close_line ∷ [])
    ++ message_of (codes "A1: a bearer token is needed")

-- its exchange
abbrev pub smuggling_exchange : Exchange
smuggling_exchange = record {
  setting = at_now studio;
  asked = message smuggling_head (print_request first_head ++ first_body) true;
  given = Some (Err (by_rule rule.A1));
}

-- it is refused from its head, the connection closes, and the message in its body makes no lock
abbrev pub BodyIsNoMessage : Type 0
BodyIsNoMessage =
    IsSession
    (session_of (print_request smuggling_head ++ print_request first_head ++ first_body) (smuggling_exchange ∷ [])
    smuggling_reply 1)
    Closed with_ann with_ann

-- ---- heads

-- 65 fields are one too many (H1)
abbrev pub CrowdedIsRefused : Type 0
CrowdedIsRefused =
    BeginsWith (print_request (post_lock (replicate 65 (field (codes "X") (codes "x"))))) bad_head []

-- the head is refused by the rule, and the connection closes
abbrev pub refuses : RequestHead → Rule → Type 0
refuses head r =
    (judge with_ann head [] ≡ Err (by_rule r)) × (closes_after (message head [] true) (Err (by_rule r)) ≡ true)

-- the rules of heads, each with a head that it refuses
abbrev pub HeadsAreRefused : Type 0
HeadsAreRefused =
    refuses (with_field (field (codes "Transfer-Encoding") (codes "chunked")) first_head) rule.H2
    × refuses (post_lock (authorization ∷ [])) rule.H3
    × refuses (with_field (length_field (codes "23")) first_head) rule.H4
    × refuses (post_lock (length_field (codes "1048577") ∷ [])) rule.H5
    × refuses (head_of (codes "PUT") (lfs (codes "locks")) (length_field (codes "4294967297") ∷ [])) rule.H5
    × refuses (head_of (codes "GET") (lfs (codes "locks/")) []) rule.H6
    × refuses (head_of (codes "POST") (lfs (codes "locks//unlock")) (length_field (codes "0") ∷ [])) rule.H6
    × refuses (head_of (codes "GET") (lfs (codes "locks/verify")) []) rule.H7
    × refuses (with_field (field (codes "Accept") (codes "text/html")) first_head) rule.H8

-- the reply to a method that is not served here (H7)
unfoldable pub method_reply : List ℕ
method_reply =
    json_head (codes "405 Method Not Allowed") (codes "47") (codes "Allow: GET, POST" ∷ close_line ∷ [])
    ++ message_of (codes "H7: the method is not served here")

-- it lists the methods that are served
abbrev pub MethodIsRefused : Type 0
MethodIsRefused = reply_in with_ann (message (head_of (codes "DELETE") (lfs (codes "locks")) []) [] true) ≡ method_reply

-- a request of the whole table of routes asks for this form
abbrev pub leads : List ℕ → List ℕ → Form → List ℕ → Type 0
leads method rest form parameter =
    head_verdict (head_of method (lfs rest) (length_field (codes "0") ∷ []))
    ≡ Ok (record { repo = film; parameter = parameter; form = form })

-- the routes, with what each method asks for
abbrev pub RoutesLead : Type 0
RoutesLead =
    leads (codes "POST") (codes "objects/batch") form.Batch []
    × leads (codes "GET") (codes "locks?limit=1") form.List [] × leads (codes "POST") (codes "locks") form.Lock []
    × leads (codes "POST") (codes "locks/verify") form.VerifyLocks []
    × leads (codes "POST") (codes "locks/1/unlock") form.Unlock (codes "1")
    × leads (codes "GET") (codes "content/x") form.Get (codes "x")
    × leads (codes "PUT") (codes "content/x") form.Put (codes "x")
    × leads (codes "POST") (codes "verify") form.Verify []
    × (methods_of (route_at (lfs (codes "content/x"))) ≡ codes "GET, PUT")

-- ---- callers

-- the reply to a message without a token (A1), which asks to close
unfoldable pub nameless_reply : List ℕ
nameless_reply =
    json_head (codes "401 Unauthorized") (codes "42") (bearer_line ∷ close_line ∷ [])
    ++ message_of (codes "A1: a bearer token is needed")

-- the reply asks for a token
abbrev pub NamelessIsRefused : Type 0
NamelessIsRefused =
    let head = post_lock (length_field (codes "23") ∷ field (codes "Connection") (codes "close") ∷ []) in
    reply_in with_ann (message head first_body true) ≡ nameless_reply

-- a token is valid before it expires, and A3 from then on; an unknown one is A2
abbrev pub TokenExpires : Type 0
TokenExpires =
    let bearers = values (codes "authorization") first_head in
    (caller_by expires_at_100 99 bearers ≡ Ok (record ann { expires = 100 }))
    × (caller_by expires_at_100 100 bearers ≡ Err rule.A3) × (caller_by nothing 99 bearers ≡ Err rule.A2)

-- the request is in this repository, and refused by J1
abbrev pub in_repo : List ℕ → DeskRequest
in_repo repo = record { bearers = []; repo = repo; left = 0; request = Err rule.J1 }

-- another repository than the token's is A4, and one that the policy does not have R1; both come before J1
abbrev pub RepositoryIsUnknown : Type 0
RepositoryIsUnknown =
    (caller_plan nothing (at_now studio) ann (in_repo (codes "studio/other")) ≡ Err (by_rule rule.A4))
    × (caller_plan nothing (at_now studio) (record ann { repo = codes "a/b" }) (in_repo (codes "a/b"))
    ≡ Err (by_rule rule.R1))

-- a download token does not allow a lock (A5), and J2 comes before that
abbrev pub DownloadLocksNothing : Type 0
DownloadLocksNothing =
    let caller = caller_named (codes "ann") 97 operation.Download in
    (answer nothing studio caller (with_body form.Lock first_body) ≡ Err (by_rule rule.A5))
    × (answer nothing studio caller (with_body form.Lock (codes "{\"path\":\"a/../b\"}")) ≡ Err (by_rule rule.J2))

-- a message that is cut off has no answer
abbrev pub CutIsUnanswered : Type 0
CutIsUnanswered = verdict_on with_ann (at_now studio) (message first_head (codes "{\"pat") false) ≡ None

-- ---- the policy

-- the first row that matches decides: below art/ it denies with P1, and for other paths the next row allows
abbrev pub FolderIsFrozen : Type 0
FolderIsFrozen =
    (status_and_body (answer nothing frozen_art ann (with_body form.Lock (codes "{\"path\":\"art/x\"}")))
    ≡ (403, message_of (codes "P1: policy row 1 denies lock")))
    × (answer nothing frozen_art ann (with_body form.Lock (codes "{\"path\":\"artx\"}"))
    ≡ Ok (makes_lock (lock_by (codes "ann") 1 (codes "artx"))))

-- a batch with one object
abbrev pub one_object : List ℕ → List ℕ → List ℕ → Asking
one_object operation name size =
    with_body form.Batch (codes "{\"operation\":\"" ++ operation ++ codes "\",\"objects\":[{\"oid\":\"" ++ name
    ++ codes "\",\"size\":" ++ size ++ codes "}]}")

-- a row for a folder does not match a question without a path; a denied push is 404 if pull is denied, and else 403
abbrev pub PushIsDenied : Type 0
PushIsDenied =
    (status_and_body (answer nothing paths_alone ann (one_object (codes "upload") hello (codes "5")))
    ≡ (404, message_of (codes "P0: no policy row allows push")))
    × (may_push readers (codes "ann") film main_branch ≡ Err (by_row 0 right.Push 403))

-- ---- objects

-- an object is stored only under the name of its bytes (X2); a download of one that is not stored is X1
abbrev pub ContentHasItsName : Type 0
ContentHasItsName =
    (answer nothing studio ann (put abc (codes "abc")) ≡ Ok (stores (object_of abc (codes "abc"))))
    × (answer nothing studio ann (put nil []) ≡ Ok (stores (object_of nil [])))
    × (answer nothing studio ann (put hello (codes "abc")) ≡ Err (by_rule rule.X2))
    × (answer nothing studio ann (get hello) ≡ Err (by_rule rule.X1))
    × (with_object (object_of abc (codes "abc")) (with_one abc (codes "abc")) ≡ with_one abc (codes "abc"))

-- the reply to a stored upload
unfoldable pub stored_reply : List ℕ
stored_reply = lines (codes "HTTP/1.1 200 OK" ∷ codes "Content-Length: 0" ∷ [])

-- the reply to a download
unfoldable pub content_reply : List ℕ
content_reply =
    lines (codes "HTTP/1.1 200 OK" ∷ codes "Content-Type: application/octet-stream" ∷ codes "Content-Length: 3" ∷ [])
    ++ codes "abc"

-- what was stored is served
abbrev pub ContentIsServed : Type 0
ContentIsServed =
    (reply_text (answer nothing studio ann (put abc (codes "abc"))) [] false ≡ stored_reply)
    × (reply_text (answer (with_one abc (codes "abc")) studio ann (get abc)) [] false ≡ content_reply)

-- the quota holds an upload exactly (5 of 5 bytes) or not (X3); a name that is stored fits
abbrev pub QuotaIsKept : Type 0
QuotaIsKept =
    (answer nothing small_studio ann (put hello (codes "hello")) ≡ Ok (stores (object_of hello (codes "hello"))))
    × (answer (with_one hello (codes "hello")) small_studio ann (put abc (codes "abc")) ≡ Err (by_rule rule.X3))
    × (answer (with_one hello (codes "hello")) small_studio ann (put hello (codes "hello"))
    ≡ Ok (stores (object_of hello (codes "hello"))))

-- what an upload of hello asks for
abbrev pub hello_target : Target
hello_target = record { repo = film; parameter = hello; form = form.Put }

-- an upload of 5 bytes, with these fields
abbrev pub put_head : List Field → RequestHead
put_head fields = head_of (codes "PUT") (lfs (codes "content/" ++ hello)) (length_field (codes "5") ∷ fields)

-- the verdict on that upload before its body, with these fields
abbrev pub early_plan : RequestHead → Result ⊤ Denial
early_plan head = early_check form.Put (desk_plan with_ann (at_now studio) (desk_request head hello_target []))

-- an upload without a token is denied from its head, and the connection closes; with a token it is not; X2, which comes
-- after the body, closes nothing
abbrev pub UploadIsRefusedEarly : Type 0
UploadIsRefusedEarly =
    let asked = message (put_head []) (codes "{\"pat") in
    (early_plan (put_head []) ≡ Err (by_rule rule.A1))
    × (text_if (asked true) (Some (Err (by_rule rule.A1))) ≡ nameless_reply)
    × (early_plan (put_head (authorization ∷ [])) ≡ Ok tt)
    × (closes_after (asked true) (Err (by_rule rule.X3)) ≡ true)
    × (closes_after (asked true) (Err (by_rule rule.X2)) ≡ false)
    × (closes_after (asked true) (Ok (stores (object_of hello []))) ≡ false)

-- a request to verify an object
abbrev pub verify : List ℕ → List ℕ → Asking
verify name size =
    with_body form.Verify (codes "{\"oid\":\"" ++ name ++ codes "\",\"size\":" ++ size ++ codes "}")

-- an object is confirmed if it is stored (V1) with this size (V2)
abbrev pub StoredIsConfirmed : Type 0
StoredIsConfirmed =
    let world = with_one hello (codes "hello") in
    (answer world studio ann (verify hello (codes "5")) ≡ Ok confirms)
    × (answer world studio ann (verify hello (codes "4")) ≡ Err (by_rule rule.V2))
    × (answer world studio ann (verify abc (codes "3")) ≡ Err (by_rule rule.V1))
    × (answer world studio ann (verify hello (codes "5.0")) ≡ Err (by_rule rule.J2))
    × (answer world studio ann (verify hello (codes "true")) ≡ Err (by_rule rule.J1))

-- ---- batches

-- the body of a batch with these objects
abbrev pub batch_body : List ℕ → List ℕ
batch_body objects =
    codes "{\"hash_algo\":\"sha256\",\"objects\":[" ++ objects ++ codes "],\"transfer\":\"basic\"}"

-- an action
abbrev pub action_text : List ℕ → List ℕ
action_text rest =
    codes "{\"expires_in\":3454,\"header\":{\"Authorization\":\"Bearer " ++ token_of 97
    ++ codes "\"},\"href\":\"https://lfs.example/studio/film.git/info/lfs/" ++ rest ++ codes "\"}"

-- an upload of two objects
abbrev pub two_objects : Asking
two_objects =
    with_body form.Batch (codes "{\"operation\":\"upload\",\"objects\":[{\"oid\":\"" ++ nil
    ++ codes "\",\"size\":0},{\"oid\":\"" ++ hello ++ codes "\",\"size\":5}]}")

-- the reply, while the first is stored
unfoldable pub upload_reply : List ℕ
upload_reply =
    json_head (codes "200 OK") (codes "771") []
    ++ batch_body (codes "{\"authenticated\":true,\"oid\":\"" ++ nil ++ codes "\",\"size\":0},{\"actions\":{\"upload\":"
    ++ action_text (codes "content/" ++ hello ++ codes "?ref=refs%2Fheads%2Fmain") ++ codes ",\"verify\":"
    ++ action_text (codes "verify?ref=refs%2Fheads%2Fmain")
    ++ codes "},\"authenticated\":true,\"oid\":\"" ++ hello ++ codes "\",\"size\":5}")

-- a stored object has no actions, and one that is not stored is uploaded and verified
abbrev pub UploadIsOffered : Type 0
UploadIsOffered = reply_text (answer (with_one nil []) studio ann two_objects) [] false ≡ upload_reply

-- the body of the reply to a download
unfoldable pub download_body : List ℕ
download_body =
    batch_body (codes "{\"actions\":{\"download\":" ++ action_text (codes "content/" ++ hello)
    ++ codes "},\"authenticated\":true,\"oid\":\"" ++ hello ++ codes "\",\"size\":5}")

-- a stored object is downloaded, with the token as it was presented
abbrev pub DownloadIsOffered : Type 0
DownloadIsOffered =
    let world = with_one hello (codes "hello") in
    status_and_body (answer world studio ann (one_object (codes "download") hello (codes "5")))
    ≡ (200, download_body)

-- the body for one object with an error
abbrev pub error_body : List ℕ → List ℕ → List ℕ → List ℕ → List ℕ
error_body code text name size =
    batch_body (codes "{\"error\":{\"code\":" ++ code ++ codes ",\"message\":\"" ++ text
    ++ codes "\"},\"oid\":\"" ++ name ++ codes "\",\"size\":" ++ size ++ codes "}")

-- the request has this error for its one object
abbrev pub has_error : Answer → List ℕ → Type 0
has_error given body = status_and_body given ≡ (200, body)

-- a name or a size that is not valid is B2, and such a size is shown as 0
abbrev pub ObjectsAreInvalid : Type 0
ObjectsAreInvalid =
    let text = codes "B2: the object name or size is not valid" in
    has_error (answer nothing studio ann (one_object (codes "download") (codes "xyz") (codes "5")))
    (error_body (codes "422") text (codes "xyz") (codes "5"))
    × has_error (answer nothing studio ann (one_object (codes "upload") hello (codes "-1")))
    (error_body (codes "422") text hello (codes "0"))

-- the other rules of objects of a batch, each with an object that it refuses
abbrev pub ObjectsAreRefused : Type 0
ObjectsAreRefused =
    has_error (answer nothing studio ann (one_object (codes "download") hello (codes "5")))
    (error_body (codes "404") (codes "B1: the object is not stored") hello (codes "5"))
    × has_error (answer (with_one hello (codes "hello")) studio ann (one_object (codes "download") hello (codes "6")))
    (error_body (codes "422") (codes "B4: the stored size differs") hello (codes "6"))
    × has_error (answer nothing small_studio ann (one_object (codes "upload") hello (codes "6")))
    (error_body (codes "507") (codes "B5: the quota does not hold the object") hello (codes "6"))

-- hello was removed for good: a download and an upload of it are X4, and it is V1 to verify; in a batch it is B6
abbrev pub RetiredIsGone : Type 0
RetiredIsGone =
    let gone = error_body (codes "410") (codes "B6: the object was removed by its owner") hello (codes "5") in
    (answer hello_gone studio ann (get hello) ≡ Err (by_rule rule.X4))
    × (answer hello_gone studio ann (put hello (codes "hello")) ≡ Err (by_rule rule.X4))
    × (answer hello_gone studio ann (verify hello (codes "5")) ≡ Err (by_rule rule.V1))
    × has_error (answer hello_gone studio ann (one_object (codes "download") hello (codes "5"))) gone
    × has_error (answer hello_gone studio ann (one_object (codes "upload") hello (codes "5"))) gone

-- an upload of hello with another hash
abbrev pub other_hash : Asking
other_hash =
    with_body form.Batch (codes "{\"hash_algo\":\"sha512\",\"operation\":\"upload\",\"objects\":[{\"oid\":\"" ++ hello
    ++ codes "\",\"size\":5}]}")

-- it is B3
abbrev pub HashIsRefused : Type 0
HashIsRefused =
    has_error (answer nothing studio ann other_hash)
    (error_body (codes "409") (codes "B3: the hash algorithm is not served") hello (codes "5"))

-- a batch of 1,001 objects
abbrev pub many_objects : List ℕ
many_objects =
    codes "{\"operation\":\"upload\",\"objects\":["
    ++ flat_map (λ text. text) (replicate 1000 (codes "{\"oid\":\"\",\"size\":0},"))
    ++ codes "{\"oid\":\"\",\"size\":0}]}"

-- the rule refuses the batch
abbrev pub batch_refused : List ℕ → Rule → Type 0
batch_refused body r = answer nothing studio ann (with_body form.Batch body) ≡ Err (by_rule r)

-- a batch as a whole: without basic J4, a missing key J1, another operation J2, too many objects J3
abbrev pub BatchIsRefused : Type 0
BatchIsRefused =
    batch_refused (codes "{\"operation\":\"upload\",\"transfers\":[\"tus\"],\"objects\":[]}") rule.J4
    × batch_refused (codes "{\"operation\":\"delete\"}") rule.J1
    × batch_refused (codes "{\"operation\":\"delete\",\"objects\":[]}") rule.J2 × batch_refused many_objects rule.J3

-- ---- pages of locks

-- ann's locks of a, b and c, not in order
abbrev pub three_locks : World
three_locks =
    record nothing {
      locks = lock_by (codes "ann") 3 (codes "c") ∷ lock_by (codes "ann") 1 (codes "a")
          ∷ lock_by (codes "ann") 2 (codes "b") ∷ [];
      made = λ _. 3;
    }

-- the text of the lock of a
abbrev pub lock_a : List ℕ
lock_a = lock_text (codes "1") (codes "ann") (codes "a")

-- the text of the lock of c
abbrev pub lock_c : List ℕ
lock_c = lock_text (codes "3") (codes "ann") (codes "c")

-- the reply to a list with the limit 1, if the next page begins at this lock
unfoldable pub list_reply : List ℕ → List ℕ
list_reply cursor =
    json_head (codes "200 OK") (codes "109") []
    ++ codes "{\"locks\":[" ++ lock_a ++ codes "],\"next_cursor\":\"" ++ cursor ++ codes "\"}"

-- a page counts only the locks that the caller may list
abbrev pub HiddenIsLeftOut : Type 0
HiddenIsLeftOut =
    (reply_text (answer three_locks b_is_hidden bob (list (codes "limit=1"))) [] false ≡ list_reply (codes "3"))
    × (status_and_body (answer three_locks b_is_hidden bob (list (codes "limit=1&cursor=3")))
    ≡ (200, codes "{\"locks\":[" ++ lock_c ++ codes "]}"))

-- the list with this query, once b is released, has this body
abbrev pub lists_as : List ℕ → List ℕ → Type 0
lists_as query body =
    status_and_body (answer (without_lock (lock_by (codes "ann") 2 (codes "b")) three_locks) studio bob (list query))
    ≡ (200, body)

-- the cursor needs no lock; a limit below 1 is 1, and one above the longest page is that; filters
abbrev pub PagesAreCut : Type 0
PagesAreCut =
    lists_as (codes "cursor=2&limit=1") (codes "{\"locks\":[" ++ lock_c ++ codes "]}")
    × lists_as (codes "limit=0") (codes "{\"locks\":[" ++ lock_a ++ codes "],\"next_cursor\":\"3\"}")
    × lists_as (codes "limit=-5") (codes "{\"locks\":[" ++ lock_a ++ codes "],\"next_cursor\":\"3\"}")
    × lists_as (codes "limit=1000") (codes "{\"locks\":[" ++ lock_a ++ codes "," ++ lock_c ++ codes "]}")
    × lists_as (codes "path=c&x=1&id=") (codes "{\"locks\":[" ++ lock_c ++ codes "]}")

-- the rule refuses the list with this query
abbrev pub list_refused : List ℕ → Rule → Type 0
list_refused query r = answer three_locks studio bob (list query) ≡ Err (by_rule r)

-- a cursor that is not an id is L4, a limit that is not a number is J2, and so is a key that occurs twice
abbrev pub PagesAreRefused : Type 0
PagesAreRefused =
    list_refused (codes "cursor=01") rule.L4 × list_refused (codes "cursor=4294967296") rule.L4
    × list_refused (codes "limit=99999999999") rule.J2 × list_refused (codes "path=&path=b") rule.J2

-- ann has locked a, and bob b
abbrev pub two_owners : World
two_owners =
    record nothing {
      locks = lock_by (codes "bob") 2 (codes "b") ∷ lock_by (codes "ann") 1 (codes "a") ∷ [];
      made = λ _. 2;
    }

-- the reply to a request of ann for the locks of the ref
unfoldable pub split_reply : List ℕ
split_reply =
    json_head (codes "200 OK") (codes "181") []
    ++ codes "{\"ours\":[" ++ lock_a ++ codes "],\"theirs\":["
    ++ lock_text (codes "2") (codes "bob") (codes "b") ++ codes "]}"

-- the answer to ann's request with this body
abbrev pub verify_locks : List ℕ → Answer
verify_locks body = answer two_owners studio ann (with_body form.VerifyLocks body)

-- the caller's own locks, and the others; the page is cut before it is split
abbrev pub LocksAreSplit : Type 0
LocksAreSplit =
    (reply_text (verify_locks (codes "{\"cursor\":\"\"}")) [] false ≡ split_reply)
    × (status_and_body (verify_locks (codes "{\"limit\":1}"))
    ≡ (200, codes "{\"next_cursor\":\"2\",\"ours\":[" ++ lock_a ++ codes "],\"theirs\":[]}"))
    × (verify_locks (codes "{\"cursor\":\"x\"}") ≡ Err (by_rule rule.L4))

-- ---- releasing locks

-- a world with the first lock
abbrev pub first_locked : World
first_locked = record nothing { locks = first_lock ∷ []; made = λ _. 1 }

-- the reply to a release
unfoldable pub released_reply : List ℕ
released_reply =
    json_head (codes "200 OK") (codes "99") [] ++ codes "{\"lock\":"
    ++ lock_text (codes "1") (codes "ann") (codes "art/hero.psd") ++ codes "}"

-- another user's lock needs `force` (L3) and the right to it; an unknown id is L2
abbrev pub LockIsReleased : Type 0
LockIsReleased =
    let force = codes "{\"force\":true}" in
    (answer first_locked studio bob (unlock (codes "1") (codes "{}")) ≡ Err (by_rule rule.L3))
    × (answer first_locked studio bob (unlock (codes "1") force) ≡ Err (by_row 0 right.Force 403))
    × (reply_text (answer first_locked forcing bob (unlock (codes "1") force)) [] false ≡ released_reply)
    × (answer first_locked studio ann (unlock (codes "1") (codes "{}")) ≡ Ok (releases first_lock))
    × (answer first_locked studio bob (unlock (codes "9") (codes "{}")) ≡ Err (by_rule rule.L2))
    × ((without_lock first_lock first_locked).locks ≡ []) × ((without_lock first_lock first_locked).made film ≡ 1)

-- ---- the same over a connection

-- the world, and ann's token
abbrev pub with_token : World → World
with_token world = record world { tokens = with_ann.tokens }

-- ann's request for a page of one lock
abbrev pub page_message : Message
page_message = message (head_of (codes "GET") (lfs (codes "locks?limit=1")) (authorization ∷ [])) [] true

-- a POST of ann, with a body of this length
abbrev pub post_message : List ℕ → List ℕ → List ℕ → Message
post_message rest digits body =
    message (head_of (codes "POST") (lfs rest) (authorization ∷ length_field digits ∷ [])) body true

-- the query of the target limits the page, the body holds a cursor, and the target names the lock to release
abbrev pub LocksAreServed : Type 0
LocksAreServed =
    let verify = post_message (codes "locks/verify") (codes "13") (codes "{\"cursor\":\"\"}") in
    let release = post_message (codes "locks/1/unlock") (codes "2") (codes "{}") in
    (reply_in (with_token three_locks) page_message ≡ list_reply (codes "2"))
    × (reply_in (with_token two_owners) verify ≡ split_reply)
    × (reply_in (with_token first_locked) release ≡ released_reply)

-- ---- the store, the operator, moments

-- the reply of the store refusal (S1)
unfoldable pub refusal_reply : List ℕ
refusal_reply =
    json_head (codes "500 Internal Server Error") (codes "35") (close_line ∷ [])
    ++ message_of (codes "S1: the store refused")

-- it closes the connection
abbrev pub RefusalCloses : Type 0
RefusalCloses = text_if (message first_head first_body true) (Some store_refusal) ≡ refusal_reply

-- a request for ann's token at a moment, for this many seconds
abbrev pub asked_at : ℕ → ℕ → TokenRequest
asked_at now seconds = record {
  text = token_of 97;
  user = codes "ann";
  repo = film;
  operation = operation.Upload;
  now = now;
  seconds = seconds;
}

-- a token for a minute from 40 on expires at 100; it is not issued twice (K1), and none expires after the last
-- moment (K2)
abbrev pub TokenIsIssued : Type 0
TokenIsIssued =
    (after_token nothing (token_verdict nothing (asked_at 40 60)) ≡ expires_at_100)
    × (token_verdict expires_at_100 (asked_at 253402300799 1) ≡ Err already_issued)
    × (token_verdict nothing (asked_at 253402300799 1) ≡ Err expires_too_late)

-- it is removed at its expiry, and not before
abbrev pub TokenIsPruned : Type 0
TokenIsPruned = (without_expired 99 expires_at_100 ≡ expires_at_100) × (without_expired 100 expires_at_100 ≡ nothing)

-- an object is removed, was removed before, or is not there
abbrev pub ObjectIsRemoved : Type 0
ObjectIsRemoved =
    (retire_outcome (with_one hello (codes "hello")) film hello ≡ record { answer = removed_now; world = hello_gone })
    × (retire_outcome hello_gone film hello ≡ record { answer = removed_before; world = hello_gone })
    × (retire_outcome nothing film hello ≡ record { answer = no_object; world = nothing })

-- the first and the last moment
abbrev pub MomentsArePrinted : Type 0
MomentsArePrinted =
    (moment_text 0 ≡ codes "1970-01-01T00:00:00Z") × (moment_text 253402300799 ≡ codes "9999-12-31T23:59:59Z")
