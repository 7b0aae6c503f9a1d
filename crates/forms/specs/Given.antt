-- The steps that read a request: the value of its body, the texts under its keys, and their ranges.
use Rattle.std.specs.Prelude.{◌≡◌, ℕ, Bool, ◌&&◌, List, [], ◌∷◌, map, filter, Option, Some, None, Result, Ok, Err, codes, bytes_eq, if◌then◌else◌, is_some, length, nat_le, option_and_then, option_map, String, string_bytes, ⊤}
use Rattle.std.specs.Borrow.{Bor}
use Rattle.std.specs.declared.alloc.Global.{Global}
use Rattle.std.specs.Str.{is_utf8}
use Rattle.serde_json.specs.Data.{Data, Items, Num}
use Rattle.serde_json.specs.Find.{get, as_str, as_number, as_bool, as_object, as_u64}
use Rattle.serde_json.specs.Read.{read}
use Rattle.serde_json.specs.View.{items_view, number_view, view}
use Rattle.serde_json.specs.declared.number.Number.{Number}
use Rattle.serde_json.specs.declared.value.Value.{Value}
use Rattle.names.specs.Names.{ref_text}
use Rattle.names.specs.Texts.{is_hex_64, is_lock_path, is_ref, lock_id_in}
use Rattle.names.specs.declared.rules.Rule.{Rule}
use Rattle.names.specs.declared.texts.RefName.{RefName}
use Rattle.names.specs.declared.rules.Rule.TheVariants.{J1, J2, J3, J4}
use Rattle.forms.specs.declared.refusal.Refusal.{Refusal}
use Rattle.forms.specs.declared.refusal.Refusal.TheVariants as refusal
use Rattle.model.specs.Reading.{◌>>=◌, check, ok_or, or_default}
use Rattle.model.specs.Forms.{BatchForm, BatchObject, VerifyForm, LockForm, ListForm, VerifyLocksForm, UnlockForm, if_given, as_array_of, as_batch_object, as_name, each_as, has_basic, is_if_given, is_size, if_not_empty, decode_text, object_limit, operation_in, query_ref, query_value, read_if_given, limit_in, whole_if_given}

-- the result is what the definitions read: the same value, mapped by `view`, or the same rule
abbrev pub Gives : {X Y : Type 0} → (X → Y) → Result X Rule → Result Y Rule → Type 0
Gives view (Ok x) read = read ≡ Ok (view x)
Gives view (Err e) read = read ≡ Err e

-- the definitions refuse by the same rule; if memory ran out, nothing is claimed
abbrev pub IsRefusedBy : {Y : Type 0} → Refusal → Result Y Rule → Type 0
IsRefusedBy (refusal.Rule e) read = read ≡ Err e
IsRefusedBy refusal.Memory read = ⊤

-- the same as `Gives`, for a call that allocates
abbrev pub Reads : {X Y : Type 0} → (X → Y) → Result X Refusal → Result Y Rule → Type 0
Reads view (Ok x) read = read ≡ Ok (view x)
Reads view (Err e) read = IsRefusedBy e read

-- the text that is given, if one is
abbrev pub text_given : Option (Bor (List ℕ)) → Option (List ℕ)
text_given o = option_map (λ s. s.now) o

-- the same of an owned text
abbrev pub string_given : Option (String Global) → Option (List ℕ)
string_given o = option_map string_bytes o

-- the same of a ref
abbrev pub ref_given : Option RefName → Option (List ℕ)
ref_given o = option_map ref_text o

-- the number that is given, if one is
abbrev pub number_given : Option (Bor Number) → Option Num
number_given o = option_map (λ n. number_view n.now) o

-- the JSON value that is given, if one is
abbrev pub value_given : Option (Bor Value) → Option Data
value_given o = option_map (λ v. view v.now) o

-- the items that are given, if an array is
abbrev pub items_given : Option (Bor (List Value)) → Option Items
items_given o = option_map (λ items. items_view items.now) o

-- the value, if it passes the test
abbrev pub within : {A : Type 0} → (A → Bool) → A → Result A Rule
within test x = check (test x) J2 >>= λ valid. Ok x

-- ---- bodies

-- the JSON value of a body, if any
abbrev pub value_of : List ℕ → Option Data
value_of body = if is_utf8 body then read body else None

-- the value, if it is an object
abbrev pub if_object : Data → Option Data
if_object d = if is_some (as_object d) then Some d else None

-- the JSON object of a body, if any
abbrev pub object_of : List ℕ → Option Data
object_of body = option_and_then if_object (value_of body)

-- the path and the ref, not yet tested for range
abbrev pub lock_fields : Data → Result LockForm Rule
lock_fields d = do
  given ← if_given as_str (get (codes "path") d)
  path ← ok_or given J1
  ref ← if_given as_name (get (codes "ref") d)
  Ok (record { path = path; ref = ref })

-- the form, if its texts are in range
abbrev pub in_range : LockForm → Result LockForm Rule
in_range = within (λ form. is_lock_path form.path && is_if_given is_ref form.ref)

-- the keys of a request for the locks of a ref, each of its kind
pub record VerifyLocksKeys : Type 0 where
  pub ref : Option (List ℕ)
  pub cursor : Option (List ℕ)
  pub limit : Option Num

-- the ref, the cursor and the limit, not yet tested for range
abbrev pub verify_locks_keys : Data → Result VerifyLocksKeys Rule
verify_locks_keys d = do
  ref ← if_given as_name (get (codes "ref") d)
  cursor ← if_given as_str (get (codes "cursor") d)
  limit ← if_given as_number (get (codes "limit") d)
  Ok (record { ref = ref; cursor = cursor; limit = limit })

-- the form, if its values are in range
abbrev pub verify_locks_in_range : VerifyLocksKeys → Result VerifyLocksForm Rule
verify_locks_in_range keys = do
  ref ← within (is_if_given is_ref) keys.ref
  limit ← whole_if_given keys.limit
  Ok (record { ref = ref; cursor = if_not_empty keys.cursor; limit = limit })

-- the keys of a request to release a lock, each of its kind
pub record UnlockKeys : Type 0 where
  pub force : Option Bool
  pub ref : Option (List ℕ)

-- whether force is given, and the ref, not yet tested for range
abbrev pub unlock_keys : Data → Result UnlockKeys Rule
unlock_keys d = do
  force ← if_given as_bool (get (codes "force") d)
  ref ← if_given as_name (get (codes "ref") d)
  Ok (record { force = force; ref = ref })

-- the form, if the ref and the parameter are in range
abbrev pub unlock_in_range : List ℕ → UnlockKeys → Result UnlockForm Rule
unlock_in_range parameter keys = do
  valid ← check (is_if_given is_ref keys.ref) J2
  id ← ok_or (lock_id_in parameter) J2
  Ok (record { id = id; force = or_default keys.force Bool.false })

-- the name and the size of an object, each of its kind
pub record ObjectKeys : Type 0 where
  pub oid : List ℕ
  pub size : Num

-- the same, not yet tested for range
abbrev pub object_keys : Data → Result ObjectKeys Rule
object_keys d = do
  oid ← if_given as_str (get (codes "oid") d) >>= λ given. ok_or given J1
  size ← if_given as_number (get (codes "size") d) >>= λ given. ok_or given J1
  Ok (record { oid = oid; size = size })

-- the number, if an object may have this size
abbrev pub size_of : Num → Result ℕ Rule
size_of number = ok_or (as_u64 number) J2 >>= within is_size

-- the form, if its values and the ref of the query are in range
abbrev pub verify_in_range : List ℕ → ObjectKeys → Result VerifyForm Rule
verify_in_range query keys = do
  name ← within is_hex_64 keys.oid
  size ← size_of keys.size
  ref ← query_ref query
  Ok (record { name = name; size = size; ref = ref })

-- the keys of a batch except its objects, each of its kind; basic is among the transfers, or there are none
pub record BatchKeys : Type 0 where
  pub operation : List ℕ
  pub basic : Bool
  pub ref : Option (List ℕ)
  pub hash_algo : Option (List ℕ)

-- whether basic is among the transfers, or there are none
abbrev pub has_basic_in : Items → Result Bool Rule
has_basic_in items = ok_or (each_as as_str items) J1 >>= λ names. Ok (has_basic names)

-- the same of the transfers under a key; also if they are not given
abbrev pub has_basic_if_given : Option Data → Result Bool Rule
has_basic_if_given value =
    if_given (as_array_of as_str) value >>= λ transfers. Ok (is_if_given has_basic transfers)

-- the operation, the transfers, the ref and the hash, not yet tested for range
abbrev pub batch_keys : Data → Result BatchKeys Rule
batch_keys d = do
  operation ← if_given as_str (get (codes "operation") d) >>= λ given. ok_or given J1
  basic ← has_basic_if_given (get (codes "transfers") d)
  ref ← if_given as_name (get (codes "ref") d)
  hash_algo ← if_given as_str (get (codes "hash_algo") d)
  Ok (record { operation = operation; basic = basic; ref = ref; hash_algo = hash_algo })

-- the objects of a batch
abbrev pub batch_objects : Data → Result (List BatchObject) Rule
batch_objects d =
    if_given (as_array_of as_batch_object) (get (codes "objects") d) >>= λ given. ok_or given J1

-- the form, if its values are in range, it has few objects and basic is among its transfers
abbrev pub batch_in_range : BatchKeys → List BatchObject → Result BatchForm Rule
batch_in_range keys objects = do
  operation ← ok_or (operation_in keys.operation) J2
  ref ← within (is_if_given is_ref) keys.ref
  few ← check (nat_le (length objects) object_limit) J3
  basic ← check keys.basic J4
  Ok (record { operation = operation; ref = ref; hash_algo = keys.hash_algo; objects = objects })

-- ---- queries

-- the values of a key among these pairs
abbrev pub values_among : List ℕ → List (List ℕ × List ℕ) → List (List ℕ)
values_among key pairs =
    map (λ (p : List ℕ × List ℕ). decode_text p.1)
    (filter (λ (p : List ℕ × List ℕ). bytes_eq (decode_text p.0) key) pairs)

-- the only one of the values, if there are any; two are J2
abbrev pub only : List (List ℕ) → Result (Option (List ℕ)) Rule
only [] = Ok None
only (value ∷ []) = Ok (Some value)
only _ = Err J2

-- the keys of a request for locks, as texts
pub record ListKeys : Type 0 where
  pub path : Option (List ℕ)
  pub id : Option (List ℕ)
  pub ref : Option (List ℕ)
  pub cursor : Option (List ℕ)
  pub limit : Option (List ℕ)

-- the texts of a query, not yet tested for range
abbrev pub list_keys : List ℕ → Result ListKeys Rule
list_keys query = do
  path ← query_value (codes "path") query
  id ← query_value (codes "id") query
  ref ← query_value (codes "refspec") query
  cursor ← query_value (codes "cursor") query
  limit ← query_value (codes "limit") query
  Ok (record { path = path; id = id; ref = ref; cursor = cursor; limit = limit })

-- the form, if its texts are in range
abbrev pub list_in_range : ListKeys → Result ListForm Rule
list_in_range keys = do
  path ← within (is_if_given is_lock_path) keys.path
  ref ← within (is_if_given is_ref) keys.ref
  id ← read_if_given lock_id_in keys.id
  limit ← read_if_given limit_in keys.limit
  Ok (record { path = path; id = id; ref = ref; cursor = keys.cursor; limit = limit })
