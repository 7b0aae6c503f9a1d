-- What a body asks for, by way of its JSON value.
use Rattle.forms.proofs.Prelude.{◌≡◌, ℕ, Bool, true, false, ◌&&◌, List, Option, Some, None, Result, Ok, Err, refl, sym, ap, ◌∙◌, codes, if◌then◌else◌, length, nat_le, option_and_then, IsTrue, true≢false, Num, Data, null, boolean, number, string, array, object, Members, as_object, as_str, as_number, as_bool, as_u64, is_hex_64, is_lock_path, is_ref, lock_id_in, Rule, J1, J2, J3, J4, ◌>>=◌, check, ok_or, or_default, BatchForm, BatchObject, VerifyForm, LockForm, members_of, as_array_of, as_batch_object, as_name, has_basic, object_limit, operation_in, optional, is_if_given, is_size, if_not_empty, query_ref, whole_if_given, BatchKeys, ObjectKeys, VerifyLocksKeys, UnlockKeys, batch_keys, batch_objects, batch_in_range, object_keys, verify_in_range, lock_fields, in_range, value_of, if_object, object_of, verify_locks_keys, verify_locks_in_range, unlock_keys, unlock_in_range, within}
use Rattle.std.specs.Str.{is_utf8, IsUtf8}
use Rattle.std.proofs.lemmas.Str.{IsUtf8-from_is_utf8, is_utf8-from_IsUtf8}
use Rattle.serde_json.specs.Read.{read}
use Rattle.names.specs.declared.operations.Operation.{Operation}
use Rattle.model.specs.Forms as form
use Rattle.model.specs.Forms.{batch_form, verify_form, lock_form, verify_locks_form, unlock_form}

pub no_text : (body : List ℕ) → ¬ (IsUtf8 body) → None ≡ value_of body
no_text body bad = at (is_utf8 body) refl
  where
    at : (v : Bool) → is_utf8 body ≡ v → None ≡ (if v then read body else None)
    at true e = absurd (bad (IsUtf8-from_is_utf8 body e))
    at false e = refl

pub value_is : (body text : List ℕ) (o : Option Data) → text ≡ body → IsUtf8 body → read text ≡ o → o ≡ value_of body
value_is body text o same utf8 e =
    sym (ap (λ v. if v then read body else None) (is_utf8-from_IsUtf8 body utf8) ∙ sym (ap read same) ∙ e)

-- ---- ranges

-- a value that fails its test is refused
pub fails : {A : Type 0} (test : A → Bool) (x : A) → (IsTrue (test x) → false ≡ true) → within test x ≡ Err J2
fails test x bad = at (test x) refl
  where
    at : (b : Bool) → test x ≡ b → within test x ≡ Err J2
    at true e = absurd (true≢false (sym (bad e)))
    at false e = rw e refl

-- a value is in range, and the steps after that
pub one_within : {A B : Type 0} (test : A → Bool) (x : A) (more : A → Result B Rule)
    → (check (test x) J2 >>= λ valid. more x) ≡ (within test x >>= more)
one_within test x more =
    elim (test x) as (λ b. (check b J2 >>= λ valid. more x) ≡ ((check b J2 >>= λ valid. Ok x) >>= more)) [
      | true ↦ refl
      | false ↦ refl
    ]

-- two values are in range if each of them is
pub both_within : {A B C : Type 0} (first : A → Bool) (second : B → Bool) (x : A) (y : B) (more : A → B → Result C Rule)
    → (check (first x && second y) J2 >>= λ valid. more x y) ≡ (within first x >>= λ a. within second y >>= λ b. more a b)
both_within first second x y more =
    elim (first x) as (λ v. (check (v && second y) J2 >>= λ valid. more x y)
    ≡ ((check v J2 >>= λ valid. Ok x) >>= λ a. within second y >>= λ b. more a b)) [
      | true ↦ one_within second y (more x)
      | false ↦ refl
    ]

-- ---- shapes

by_value : {A : Type 0} (more : Members → Result A Rule) (steps : Data → Result A Rule) → ((ms : Members) → more ms ≡ steps (object ms)) → (o : Option Data)
    → (ok_or (option_and_then as_object o) J1 >>= more) ≡ (ok_or (option_and_then if_object o) J1 >>= steps)
by_value more steps same None = refl
by_value more steps same (Some null) = refl
by_value more steps same (Some (boolean b)) = refl
by_value more steps same (Some (number n)) = refl
by_value more steps same (Some (string s)) = refl
by_value more steps same (Some (array ds)) = refl
by_value more steps same (Some (object ms)) = same ms

-- what is read from the members of a body is what is read from its object
by_object : {A : Type 0} (more : Members → Result A Rule) (steps : Data → Result A Rule) → ((ms : Members) → more ms ≡ steps (object ms)) → (body : List ℕ)
    → (ok_or (members_of body) J1 >>= more) ≡ (ok_or (object_of body) J1 >>= steps)
by_object more steps same body =
    elim (is_utf8 body) as (λ v. (ok_or (if v then option_and_then as_object (read body) else None) J1 >>= more)
    ≡ (ok_or (option_and_then if_object (if v then read body else None)) J1 >>= steps)) [
      | true ↦ by_value more steps same (read body)
      | false ↦ refl
    ]

-- ---- the requests: reading the keys and then testing their ranges gives what the interleaved checks of the definitions give

abbrev verify : List ℕ → Num → ObjectKeys
verify oid size = record { oid = oid; size = size }

abbrev verified : List ℕ → ℕ → Option (List ℕ) → VerifyForm
verified name size ref = record { name = name; size = size; ref = ref }

-- all three are J2, so it does not matter whether the name or the number is read first
name_first : (name : List ℕ) (n : Option ℕ) (r : Result (Option (List ℕ)) Rule)
    → (ok_or n J2 >>= λ size. check (is_hex_64 name && is_size size) J2 >>= λ valid. r >>= λ ref. Ok (verified name size ref))
    ≡ (within is_hex_64 name >>= λ a. (ok_or n J2 >>= within is_size) >>= λ b. r >>= λ ref. Ok (verified a b ref))
name_first name None r =
    elim (is_hex_64 name) as (λ b. (ok_or None J2 >>= λ size. check (is_hex_64 name && is_size size) J2 >>= λ valid. r >>= λ ref. Ok (verified name size ref))
    ≡ ((check b J2 >>= λ valid. Ok name) >>= λ a. (ok_or None J2 >>= within is_size) >>= λ b. r >>= λ ref. Ok (verified a b ref))) [
      | true ↦ refl
      | false ↦ refl
    ]
name_first name (Some size) r =
    both_within is_hex_64 is_size name size (λ a b. r >>= λ ref. Ok (verified a b ref))

verify_chain : (o : Result (Option (List ℕ)) Rule) (n : Result (Option Num) Rule) (r : Result (Option (List ℕ)) Rule)
    → ((o >>= λ given. ok_or given J1) >>= λ name. (n >>= λ given. ok_or given J1) >>= λ size. ok_or (as_u64 size) J2 >>= λ size. check (is_hex_64 name && is_size size) J2 >>= λ valid. r >>= λ ref. Ok (verified name size ref))
    ≡ (((o >>= λ given. ok_or given J1) >>= λ name. (n >>= λ given. ok_or given J1) >>= λ size. Ok (verify name size)) >>= λ keys. within is_hex_64 keys.oid >>= λ a. (ok_or (as_u64 keys.size) J2 >>= within is_size) >>= λ b. r >>= λ ref. Ok (verified a b ref))
verify_chain (Err e) n r = refl
verify_chain (Ok None) n r = refl
verify_chain (Ok (Some name)) (Err e) r = refl
verify_chain (Ok (Some name)) (Ok None) r = refl
verify_chain (Ok (Some name)) (Ok (Some size)) r = name_first name (as_u64 size) r

pub verify_by_value : (query body : List ℕ) → verify_form query body ≡ (ok_or (object_of body) J1 >>= λ d. object_keys d >>= verify_in_range query)
unfolding verify_form
verify_by_value query body =
    by_object _ _ (λ ms. verify_chain (optional as_str (codes "oid") ms) (optional as_number (codes "size") ms) (query_ref query)) body

abbrev lock : List ℕ → Option (List ℕ) → LockForm
lock path ref = record { path = path; ref = ref }

lock_chain : (p : Result (Option (List ℕ)) Rule) (r : Result (Option (List ℕ)) Rule)
    → ((p >>= λ given. ok_or given J1) >>= λ path. r >>= λ ref. check (is_lock_path path && is_if_given is_ref ref) J2 >>= λ valid. Ok (lock path ref))
    ≡ ((p >>= λ given. ok_or given J1 >>= λ path. r >>= λ ref. Ok (lock path ref)) >>= in_range)
lock_chain (Err e) r = refl
lock_chain (Ok None) r = refl
lock_chain (Ok (Some path)) (Err e) = refl
lock_chain (Ok (Some path)) (Ok ref) = refl

pub lock_by_value : (body : List ℕ) → lock_form body ≡ (ok_or (object_of body) J1 >>= λ d. lock_fields d >>= in_range)
unfolding lock_form
lock_by_value body =
    by_object _ _ (λ ms. lock_chain (optional as_str (codes "path") ms) (optional as_name (codes "ref") ms)) body

-- the texts of a form are in range if each of them is
pub joined : (path : List ℕ) (ref : Option (List ℕ)) → in_range (lock path ref) ≡ (within is_lock_path path >>= λ p. within (is_if_given is_ref) ref >>= λ r. Ok (lock p r))
joined path ref = both_within is_lock_path (is_if_given is_ref) path ref (λ p r. Ok (lock p r))

abbrev verify_locks : Option (List ℕ) → Option (List ℕ) → Option Num → VerifyLocksKeys
verify_locks ref cursor limit = record { ref = ref; cursor = cursor; limit = limit }

verify_locks_chain : (r c : Result (Option (List ℕ)) Rule) (n : Result (Option Num) Rule)
    → (r >>= λ ref. c >>= λ cursor. n >>= λ number. check (is_if_given is_ref ref) J2 >>= λ valid. whole_if_given number >>= λ limit. Ok (record { ref = ref; cursor = if_not_empty cursor; limit = limit }))
    ≡ ((r >>= λ ref. c >>= λ cursor. n >>= λ limit. Ok (verify_locks ref cursor limit)) >>= verify_locks_in_range)
verify_locks_chain (Err e) c n = refl
verify_locks_chain (Ok ref) (Err e) n = refl
verify_locks_chain (Ok ref) (Ok cursor) (Err e) = refl
verify_locks_chain (Ok ref) (Ok cursor) (Ok n) =
    one_within (is_if_given is_ref) ref (λ r. whole_if_given n >>= λ limit. Ok (record { ref = r; cursor = if_not_empty cursor; limit = limit }))

pub verify_locks_by_value : (body : List ℕ) → verify_locks_form body ≡ (ok_or (object_of body) J1 >>= λ d. verify_locks_keys d >>= verify_locks_in_range)
unfolding verify_locks_form
verify_locks_by_value body =
    by_object _ _ (λ ms. verify_locks_chain (optional as_name (codes "ref") ms) (optional as_str (codes "cursor") ms) (optional as_number (codes "limit") ms)) body

abbrev unlock : Option Bool → Option (List ℕ) → UnlockKeys
unlock force ref = record { force = force; ref = ref }

unlock_chain : (parameter : List ℕ) (f : Result (Option Bool) Rule) (r : Result (Option (List ℕ)) Rule)
    → (f >>= λ force. r >>= λ ref. check (is_if_given is_ref ref) J2 >>= λ valid. ok_or (lock_id_in parameter) J2 >>= λ id. Ok (record { id = id; force = or_default force false }))
    ≡ ((f >>= λ force. r >>= λ ref. Ok (unlock force ref)) >>= unlock_in_range parameter)
unlock_chain parameter (Err e) r = refl
unlock_chain parameter (Ok force) (Err e) = refl
unlock_chain parameter (Ok force) (Ok ref) = refl

pub unlock_by_value : (parameter body : List ℕ) → unlock_form parameter body ≡ (ok_or (object_of body) J1 >>= λ d. unlock_keys d >>= unlock_in_range parameter)
unfolding unlock_form
unlock_by_value parameter body =
    by_object _ _ (λ ms. unlock_chain parameter (optional as_bool (codes "force") ms) (optional as_name (codes "ref") ms)) body

-- ---- a batch, whose objects are read after its other keys

in_turn : {A B C : Type 0} (first : Result A Rule) (second : A → Result B Rule) (third : B → Result C Rule)
    → ((first >>= second) >>= third) ≡ (first >>= λ x. second x >>= third)
in_turn (Ok x) second third = refl
in_turn (Err e) second third = refl

abbrev batch : List ℕ → Option (List (List ℕ)) → Option (List ℕ) → Option (List ℕ) → List BatchObject → form.BatchKeys
batch operation transfers ref hash_algo objects =
    record { operation = operation; transfers = transfers; ref = ref; hash_algo = hash_algo; objects = objects }

abbrev without_objects : List ℕ → Bool → Option (List ℕ) → Option (List ℕ) → BatchKeys
without_objects operation basic ref hash_algo =
    record { operation = operation; basic = basic; ref = ref; hash_algo = hash_algo }

-- the checks after the keys
abbrev batch_checks : form.BatchKeys → Result BatchForm Rule
batch_checks keys = do
  operation ← ok_or (operation_in keys.operation) J2
  in_range ← check (is_if_given is_ref keys.ref) J2
  few ← check (nat_le (length keys.objects) object_limit) J3
  basic ← check (is_if_given has_basic keys.transfers) J4
  Ok (record { operation = operation; ref = keys.ref; hash_algo = keys.hash_algo; objects = keys.objects })

abbrev batched : Option (List ℕ) → List BatchObject → Operation → Option (List ℕ) → BatchForm
batched hash_algo objects operation ref =
    record { operation = operation; ref = ref; hash_algo = hash_algo; objects = objects }

-- the checks after the ranges
abbrev last_checks : Option (List (List ℕ)) → BatchForm → Result BatchForm Rule
last_checks transfers asked = do
  few ← check (nat_le (length asked.objects) object_limit) J3
  basic ← check (is_if_given has_basic transfers) J4
  Ok asked

operation_first : (found : Option Operation) (transfers : Option (List (List ℕ))) (ref hash_algo : Option (List ℕ)) (objects : List BatchObject)
    → (ok_or found J2 >>= λ way. check (is_if_given is_ref ref) J2 >>= λ valid. last_checks transfers (batched hash_algo objects way ref))
    ≡ (ok_or found J2 >>= λ way. within (is_if_given is_ref) ref >>= λ name. last_checks transfers (batched hash_algo objects way name))
operation_first None transfers ref hash_algo objects = refl
operation_first (Some way) transfers ref hash_algo objects =
    one_within (is_if_given is_ref) ref (λ name. last_checks transfers (batched hash_algo objects way name))

batch_ranges : (operation : List ℕ) (transfers : Option (List (List ℕ))) (ref hash_algo : Option (List ℕ)) (objects : List BatchObject)
    → batch_checks (batch operation transfers ref hash_algo objects) ≡ batch_in_range (without_objects operation (is_if_given has_basic transfers) ref hash_algo) objects
batch_ranges operation transfers ref hash_algo objects =
    operation_first (operation_in operation) transfers ref hash_algo objects

batch_chain : (o : Result (Option (List ℕ)) Rule) (t : Result (Option (List (List ℕ))) Rule) (r h : Result (Option (List ℕ)) Rule) (s : Result (Option (List BatchObject)) Rule)
    → (((o >>= λ given. ok_or given J1) >>= λ operation. t >>= λ transfers. r >>= λ ref. h >>= λ hash_algo. (s >>= λ given. ok_or given J1) >>= λ objects. Ok (batch operation transfers ref hash_algo objects)) >>= batch_checks)
    ≡ (((o >>= λ given. ok_or given J1) >>= λ operation. (t >>= λ transfers. Ok (is_if_given has_basic transfers)) >>= λ basic. r >>= λ ref. h >>= λ hash_algo. Ok (without_objects operation basic ref hash_algo))
    >>= λ keys. (s >>= λ given. ok_or given J1) >>= λ objects. batch_in_range keys objects)
batch_chain (Err e) t r h s = refl
batch_chain (Ok None) t r h s = refl
batch_chain (Ok (Some operation)) (Err e) r h s = refl
batch_chain (Ok (Some operation)) (Ok transfers) (Err e) h s = refl
batch_chain (Ok (Some operation)) (Ok transfers) (Ok ref) (Err e) s = refl
batch_chain (Ok (Some operation)) (Ok transfers) (Ok ref) (Ok hash_algo) (Err e) = refl
batch_chain (Ok (Some operation)) (Ok transfers) (Ok ref) (Ok hash_algo) (Ok None) = refl
batch_chain (Ok (Some operation)) (Ok transfers) (Ok ref) (Ok hash_algo) (Ok (Some objects)) =
    batch_ranges operation transfers ref hash_algo objects

pub batch_by_value : (body : List ℕ) → batch_form body ≡ (ok_or (object_of body) J1 >>= λ d. batch_keys d >>= λ keys. batch_objects d >>= λ objects. batch_in_range keys objects)
unfolding batch_form form.batch_keys
batch_by_value body =
    in_turn (ok_or (members_of body) J1) _ batch_checks
    ∙ by_object _ _ (λ ms. batch_chain (optional as_str (codes "operation") ms) (optional (as_array_of as_str) (codes "transfers") ms) (optional as_name (codes "ref") ms) (optional as_str (codes "hash_algo") ms) (optional (as_array_of as_batch_object) (codes "objects") ms)) body
