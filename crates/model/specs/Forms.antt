-- Reads a request from its route's parameter, its query and its body (Git LFS API).
use Rattle.std.specs.Prelude.{ℕ, Bool, true, false, ◌&&◌, List, [], ◌∷◌, length, map, filter, drop, Option, Some, None, Result, Ok, Err, option_and_then, option_map, codes, bytes_eq, if◌then◌else◌, nat_le, ℤ, pos, neg_ℤ}
use Rattle.std.specs.List.{list_all, list_any}
use Rattle.std.specs.Char.{is_ascii_digit}
use Rattle.std.specs.Str.{is_utf8}
use Rattle.std.specs.Str.Lossy.{utf8_lossy}
use Rattle.std.specs.Str.Parse.{digits_value}
use Rattle.serde_json.specs.Data.{Num, Data, null, Items, no_items, item, Members}
use Rattle.serde_json.specs.Find.{get_member, as_object, as_str, as_number, as_bool, as_array, as_u64, as_i64}
use Rattle.serde_json.specs.Read.{read}
use Rattle.form_urlencoded.specs.Form.{raw_pairs, decode}
use Rattle.names.specs.Texts.{is_lock_path, is_ref, is_hex_64, is_empty, between, begins, lock_id_in, largest_object}
use Rattle.names.specs.declared.rules.Rule.{Rule}
use Rattle.names.specs.declared.rules.Rule.TheVariants.{J1, J2, J3, J4}
use Rattle.model.specs.declared.Form.{Form}
use Rattle.model.specs.declared.Form.TheVariants as form
use Rattle.names.specs.declared.operations.Operation.{Operation}
use Rattle.names.specs.declared.operations.Operation.TheVariants as operation
use Rattle.model.specs.Reading.{◌>>=◌, check, ok_or, or_default}

-- ---- the members of a body

-- the members of the body, if it is a JSON object (RFC 8259)
abbrev pub members_of : List ℕ → Option Members
members_of body = if is_utf8 body then option_and_then as_object (read body) else None

-- a value of this kind, or none: null counts as missing, and another kind is J1
abbrev pub if_given : {A : Type 0} → (Data → Option A) → Option Data → Result (Option A) Rule
if_given kind None = Ok None
if_given kind (Some null) = Ok None
if_given kind (Some value) = ok_or (kind value) J1 >>= λ x. Ok (Some x)

-- the value of a key that may be missing
abbrev pub optional : {A : Type 0} → (Data → Option A) → List ℕ → Members → Result (Option A) Rule
optional kind key members = if_given kind (get_member key members)

-- the value of a required key
abbrev pub required_member : {A : Type 0} → (Data → Option A) → List ℕ → Members → Result A Rule
required_member kind key members = optional kind key members >>= λ value. ok_or value J1

-- the value of a key of an inner object, if it is of this kind
abbrev pub inside : {A : Type 0} → (Data → Option A) → List ℕ → Members → Option A
inside kind key members = option_and_then kind (get_member key members)

-- an object with the text name
abbrev pub as_name : Data → Option (List ℕ)
as_name value = option_and_then (inside as_str (codes "name")) (as_object value)

-- all the items, if each of them is of this kind
abbrev pub each_as : {A : Type 0} → (Data → Option A) → Items → Option (List A)
each_as kind no_items = Some []
each_as kind (item value more) = option_and_then (λ x. option_map (λ xs. x ∷ xs) (each_as kind more)) (kind value)

-- an array whose items are all of this kind
abbrev pub as_array_of : {A : Type 0} → (Data → Option A) → Data → Option (List A)
as_array_of kind value = option_and_then (each_as kind) (as_array value)

-- a value that is given passes the test
abbrev pub is_if_given : {A : Type 0} → (A → Bool) → Option A → Bool
is_if_given test (Some x) = test x
is_if_given test None = true

-- ---- the keys of a query

-- the text of a percent-encoded key or value (URL Standard, application/x-www-form-urlencoded)
abbrev pub decode_text : List ℕ → List ℕ
decode_text bytes = utf8_lossy (decode bytes)

-- the only value of a key: an empty one counts as missing, and two are J2
abbrev pub query_single : List (List ℕ) → Result (Option (List ℕ)) Rule
query_single [] = Ok None
query_single (value ∷ []) = Ok (if is_empty value then None else Some value)
query_single _ = Err J2

-- the values of a key of the query
abbrev pub query_values : List ℕ → List ℕ → List (List ℕ)
query_values key query =
    map (λ (p : List ℕ × List ℕ). decode_text p.1)
    (filter (λ (p : List ℕ × List ℕ). bytes_eq (decode_text p.0) key) (raw_pairs query))

-- the value of a key of the query, if there is one
unfoldable pub query_value : List ℕ → List ℕ → Result (Option (List ℕ)) Rule
query_value key query = query_single (query_values key query)

-- the given value as read, or J2
abbrev pub read_if_given : {A : Type 0} → (List ℕ → Option A) → Option (List ℕ) → Result (Option A) Rule
read_if_given reading None = Ok None
read_if_given reading (Some text) = ok_or (reading text) J2 >>= λ x. Ok (Some x)

-- a number of 1 to 10 digits
abbrev pub short_number_in : List ℕ → Option ℕ
short_number_in text =
    if between 1 10 (length text) && list_all is_ascii_digit text then Some (digits_value 10 text) else None

-- the same, with or without a minus sign
abbrev pub limit_in : List ℕ → Option ℤ
limit_in text =
    if begins (codes "-") text then option_map (λ n. neg_ℤ (pos n)) (short_number_in (drop 1 text))
    else option_map pos (short_number_in text)

-- ---- the requests

-- an object of a batch: any text, and the number that was given if it is a whole number of 64 bits
pub record BatchObject : Type 0 where
  pub oid : List ℕ
  pub size : Option ℕ

-- which objects to transfer, which way, and under which ref
pub record BatchForm : Type 0 where
  pub operation : Operation
  pub ref : Option (List ℕ)
  pub hash_algo : Option (List ℕ)
  pub objects : List BatchObject

-- the name to store a content under
pub record PutForm : Type 0 where
  pub name : List ℕ
  pub ref : Option (List ℕ)

-- the object that the client has uploaded
pub record VerifyForm : Type 0 where
  pub name : List ℕ
  pub size : ℕ
  pub ref : Option (List ℕ)

-- a path to lock, and perhaps its ref
pub record LockForm : Type 0 where
  pub path : List ℕ
  pub ref : Option (List ℕ)

-- which locks to list, and which page of them; the cursor is still a text
pub record ListForm : Type 0 where
  pub path : Option (List ℕ)
  pub id : Option ℕ
  pub ref : Option (List ℕ)
  pub cursor : Option (List ℕ)
  pub limit : Option ℤ

-- the ref to push to, and which page of its locks to show
pub record VerifyLocksForm : Type 0 where
  pub ref : Option (List ℕ)
  pub cursor : Option (List ℕ)
  pub limit : Option ℤ

-- the lock to release, and whether to release another user's
pub record UnlockForm : Type 0 where
  pub id : ℕ
  pub force : Bool

-- what a request asks
pub data Request : Type 0 where
  asks_batch : BatchForm → Request
  asks_get : List ℕ → Request
  asks_put : PutForm → Request
  asks_verify : VerifyForm → Request
  asks_lock : LockForm → Request
  asks_list : ListForm → Request
  asks_verify_locks : VerifyLocksForm → Request
  asks_unlock : UnlockForm → Request

-- ---- reading them: a wrong kind anywhere (J1) comes before a value out of range (J2)

-- a size that an object may have
abbrev pub is_size : ℕ → Bool
is_size n = nat_le n largest_object

-- the most objects of a batch
abbrev pub object_limit : ℕ
object_limit = 1000

-- an object with the text oid and the number size
abbrev pub as_batch_object : Data → Option BatchObject
as_batch_object value =
    option_and_then (λ o.
    option_and_then (λ oid.
    option_map (λ size. record { oid = oid; size = as_u64 size })
    (inside as_number (codes "size") o)) (inside as_str (codes "oid") o)) (as_object value)

-- the operation of this name
abbrev pub operation_in : List ℕ → Option Operation
operation_in text =
    if bytes_eq text (codes "download") then Some operation.Download
    else (if bytes_eq text (codes "upload") then Some operation.Upload else None)

-- basic is among the transfers, or there are none
abbrev pub has_basic : List (List ℕ) → Bool
has_basic [] = true
has_basic transfers = list_any (λ t. bytes_eq t (codes "basic")) transfers

-- the keys of a batch's body, each of its kind
pub record BatchKeys : Type 0 where
  pub operation : List ℕ
  pub transfers : Option (List (List ℕ))
  pub ref : Option (List ℕ)
  pub hash_algo : Option (List ℕ)
  pub objects : List BatchObject

-- the body of a batch request, read by kinds
unfoldable pub batch_keys : List ℕ → Result BatchKeys Rule
batch_keys body = do
  members ← ok_or (members_of body) J1
  operation ← required_member as_str (codes "operation") members
  transfers ← optional (as_array_of as_str) (codes "transfers") members
  ref ← optional as_name (codes "ref") members
  hash_algo ← optional as_str (codes "hash_algo") members
  objects ← required_member (as_array_of as_batch_object) (codes "objects") members
  Ok (record { operation = operation; transfers = transfers; ref = ref; hash_algo = hash_algo; objects = objects })

-- the body of a batch request
unfoldable pub batch_form : List ℕ → Result BatchForm Rule
batch_form body = do
  keys ← batch_keys body
  operation ← ok_or (operation_in keys.operation) J2
  in_range ← check (is_if_given is_ref keys.ref) J2
  few ← check (nat_le (length keys.objects) object_limit) J3
  basic ← check (is_if_given has_basic keys.transfers) J4
  Ok (record { operation = operation; ref = keys.ref; hash_algo = keys.hash_algo; objects = keys.objects })

-- the ref that a query names
abbrev pub query_ref : List ℕ → Result (Option (List ℕ)) Rule
query_ref query = do
  ref ← query_value (codes "ref") query
  in_range ← check (is_if_given is_ref ref) J2
  Ok ref

-- the name and the ref of an upload; its body is not read here, so a denial is known from the head
unfoldable pub put_form : List ℕ → List ℕ → Result PutForm Rule
put_form parameter query = do
  name ← check (is_hex_64 parameter) J2
  ref ← query_ref query
  Ok (record { name = parameter; ref = ref })

-- the query and the body of a request to verify an object
unfoldable pub verify_form : List ℕ → List ℕ → Result VerifyForm Rule
verify_form query body = do
  members ← ok_or (members_of body) J1
  oid ← required_member as_str (codes "oid") members
  number ← required_member as_number (codes "size") members
  size ← ok_or (as_u64 number) J2
  in_range ← check (is_hex_64 oid && is_size size) J2
  ref ← query_ref query
  Ok (record { name = oid; size = size; ref = ref })

-- the body of a request for a lock
unfoldable pub lock_form : List ℕ → Result LockForm Rule
lock_form body = do
  members ← ok_or (members_of body) J1
  path ← required_member as_str (codes "path") members
  ref ← optional as_name (codes "ref") members
  in_range ← check (is_lock_path path && is_if_given is_ref ref) J2
  Ok (record { path = path; ref = ref })

-- the query of a request for locks
unfoldable pub list_form : List ℕ → Result ListForm Rule
list_form query = do
  path ← query_value (codes "path") query
  id_text ← query_value (codes "id") query
  ref ← query_value (codes "refspec") query
  cursor ← query_value (codes "cursor") query
  limit_text ← query_value (codes "limit") query
  in_range ← check (is_if_given is_lock_path path && is_if_given is_ref ref) J2
  id ← read_if_given lock_id_in id_text
  limit ← read_if_given limit_in limit_text
  Ok (record { path = path; id = id; ref = ref; cursor = cursor; limit = limit })

-- an empty cursor counts as missing
abbrev pub if_not_empty : Option (List ℕ) → Option (List ℕ)
if_not_empty (Some []) = None
if_not_empty given = given

-- a number that is given is a whole one of 64 bits with its sign, or J2
abbrev pub whole_if_given : Option Num → Result (Option ℤ) Rule
whole_if_given None = Ok None
whole_if_given (Some number) = ok_or (as_i64 number) J2 >>= λ z. Ok (Some z)

-- the body of a request for the locks of a ref
unfoldable pub verify_locks_form : List ℕ → Result VerifyLocksForm Rule
verify_locks_form body = do
  members ← ok_or (members_of body) J1
  ref ← optional as_name (codes "ref") members
  cursor ← optional as_str (codes "cursor") members
  number ← optional as_number (codes "limit") members
  in_range ← check (is_if_given is_ref ref) J2
  limit ← whole_if_given number
  Ok (record { ref = ref; cursor = if_not_empty cursor; limit = limit })

-- the parameter and the body of a request to release a lock; its ref is checked and not used
unfoldable pub unlock_form : List ℕ → List ℕ → Result UnlockForm Rule
unlock_form parameter body = do
  members ← ok_or (members_of body) J1
  force ← optional as_bool (codes "force") members
  ref ← optional as_name (codes "ref") members
  in_range ← check (is_if_given is_ref ref) J2
  id ← ok_or (lock_id_in parameter) J2
  Ok (record { id = id; force = or_default force false })

-- what a request of this form asks, by its route's parameter, its query and its body
abbrev pub request_of : Form → List ℕ → List ℕ → List ℕ → Result Request Rule
request_of form.Batch parameter query body = batch_form body >>= λ asked. Ok (asks_batch asked)
request_of form.Get parameter query body = check (is_hex_64 parameter) J2 >>= λ name. Ok (asks_get parameter)
request_of form.Put parameter query body = put_form parameter query >>= λ asked. Ok (asks_put asked)
request_of form.Verify parameter query body = verify_form query body >>= λ asked. Ok (asks_verify asked)
request_of form.Lock parameter query body = lock_form body >>= λ asked. Ok (asks_lock asked)
request_of form.List parameter query body = list_form query >>= λ asked. Ok (asks_list asked)
request_of form.VerifyLocks parameter query body = verify_locks_form body >>= λ asked. Ok (asks_verify_locks asked)
request_of form.Unlock parameter query body = unlock_form parameter body >>= λ asked. Ok (asks_unlock asked)

-- the operation is upload
abbrev pub is_upload : Operation → Bool
is_upload operation.Upload = true
is_upload operation.Download = false

-- the request needs an upload token
abbrev pub needs_upload : Request → Bool
needs_upload (asks_batch asked) = is_upload asked.operation
needs_upload (asks_get name) = false
needs_upload (asks_list asked) = false
needs_upload _ = true
