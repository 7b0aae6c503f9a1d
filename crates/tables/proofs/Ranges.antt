-- Texts in range are UTF-8, so a column that has one can be read.
use Rattle.tables.proofs.Prelude.{◌≡◌, ◌≢◌, ℕ, zero, suc, ◌<◌, Bool, true, false, ◌&&◌, ◌==◌, cond, List, [], ◌∷◌, IsAscii, IsUtf8, IsTrue, IsErrAnd, Result, Ok, Err, length, codes, nat_le, not, refl, sym, ap, subst, ◌∙◌, arith, list_all, onto_first, and_parts, and_from, Text, Error, column, StoreFault}
use Rattle.std.specs.Str.{is_utf8}
use Rattle.std.proofs.lemmas.Bool.{eqb-true}
use Rattle.std.proofs.lemmas.Bool.Decides.{nat_tests}
use Rattle.std.proofs.lemmas.Str.{IsUtf8-from_ascii, IsUtf8-from_is_utf8}
use Rattle.sqlite.specs.declared.error.ErrorCode.TheVariants.{OutOfMemory}
use Rattle.sqlite.specs.declared.error.Error.TheVariants.{SqliteFailure}
use Rattle.sqlite_value.specs.Order.{Row}
use Rattle.tables.specs.declared.fault.StoreFault.TheVariants.{Refused}
use Rattle.tables.specs.Faults.{fault_of}
use Rattle.names.specs.Texts.{parts, is_name_byte, is_ref_byte, is_path_byte, is_path_part, is_empty, has_two_dots, begins, between, is_user, is_repo, is_ref, is_lock_path, are_owner_and_name}

name_byte : (b : ℕ) → is_name_byte b ≡ true → b < 128
name_byte b h = grind (arith, nat_tests)

ref_byte : (b : ℕ) → is_ref_byte b ≡ true → b < 128
ref_byte b h = grind (arith, nat_tests)

ascii : (p : ℕ → Bool) → ((b : ℕ) → p b ≡ true → b < 128) → (text : List ℕ) → list_all p text ≡ true → IsAscii text
ascii p low [] all i = omega arith
ascii p low (b ∷ text) all zero = low b (and_parts (p b) (list_all p text) all).0
ascii p low (b ∷ text) all (suc i) = ascii p low text (and_parts (p b) (list_all p text) all).1 i

abbrev are_names : List (List ℕ) → Bool
are_names = list_all (list_all is_name_byte)

-- the first byte of a text whose parts are names, and the parts of the rest
onto : (b : ℕ) (cut : List (List ℕ)) → are_names (onto_first b cut) ≡ true → (b < 128) × (are_names cut ≡ true)
onto b [] all = (name_byte b (and_parts (is_name_byte b) true (and_parts _ true all).0).0, refl)
onto b (a ∷ cut) all =
    let both = and_parts (is_name_byte b && list_all is_name_byte a) (are_names cut) all in
    let first = and_parts (is_name_byte b) (list_all is_name_byte a) both.0 in
    (name_byte b first.0, and_from _ _ first.1 both.1)

first_byte : (b : ℕ) (text : List ℕ) (v : Bool) → (b == 47) ≡ v → are_names (cond v ([] ∷ parts text) (onto_first b (parts text))) ≡ true → (b < 128) × (are_names (parts text) ≡ true)
first_byte b text true slash all = (let is : b ≡ 47 = eqb-true b 47 slash in omega (arith, is), all)
first_byte b text false slash all = onto b (parts text) all

of_parts : (text : List ℕ) → are_names (parts text) ≡ true → IsAscii text
of_parts [] all i = omega arith
of_parts (b ∷ text) all zero = (first_byte b text (b == 47) refl all).0
of_parts (b ∷ text) all (suc i) = of_parts text (first_byte b text (b == 47) refl all).1 i

two_names : (cut : List (List ℕ)) → are_owner_and_name cut ≡ true → are_names cut ≡ true
two_names [] h = absurd (cc)
two_names (a ∷ []) h = absurd (cc)
two_names (a ∷ b ∷ []) h =
    let both = and_parts (is_user a) (is_user b) h in
    and_from _ _ (and_parts _ (list_all is_name_byte a) both.0).1 (and_from _ true (and_parts _ (list_all is_name_byte b) both.1).1 refl)
two_names (a ∷ b ∷ c ∷ cut) h = absurd (cc)

pub user_text_is : (text : List ℕ) → IsTrue (is_user text) → IsUtf8 text
user_text_is text h = IsUtf8-from_ascii text (ascii is_name_byte name_byte text (and_parts _ (list_all is_name_byte text) h).1)

pub repo_text_is : (text : List ℕ) → IsTrue (is_repo text) → IsUtf8 text
repo_text_is text h = IsUtf8-from_ascii text (of_parts text (two_names (parts text) h))

pub ref_text_is : (text : List ℕ) → IsTrue (is_ref text) → IsUtf8 text
ref_text_is text h =
    let front = begins (codes "refs/") text && nat_le (length text) 255 in
    let all = list_all is_ref_byte text in
    let dots = not (has_two_dots text) in
    let both = and_parts (front && all) dots (and_parts (front && all && dots) (list_all (λ part. not (is_empty part)) (parts text)) h).0 in
    IsUtf8-from_ascii text (ascii is_ref_byte ref_byte text (and_parts front all both.0).1)

pub path_text_is : (text : List ℕ) → IsTrue (is_lock_path text) → IsUtf8 text
path_text_is text h =
    let front = between 1 1024 (length text) && is_utf8 text in
    let all = list_all is_path_byte text in
    let both = and_parts front all (and_parts (front && all) (list_all is_path_part (parts text)) h).0 in
    IsUtf8-from_is_utf8 text (and_parts (between 1 1024 (length text)) (is_utf8 text) both.0).1

-- a column with a text that is UTF-8 is read, unless memory runs out
pub is_read : {T : Type 0} (row shown : Row) (at : ℕ) (text : List ℕ) (e : Error) (r : Result T StoreFault) → row ≡ shown → at < length shown → column shown at ≡ Text text → IsUtf8 text
    → (e ≢ SqliteFailure OutOfMemory → at < length row → ((t : List ℕ) × (column row at ≡ Text t) × IsUtf8 t) → ⊥) → IsErrAnd r (λ fault. fault ≡ fault_of e) → r ≢ Err Refused
is_read row shown at text e (Ok x) all here is utf8 unread given refused = absurd given
is_read row shown at text e (Err fault) all here is utf8 unread given refused =
    let same : fault_of e ≡ Refused = (let a : fault ≡ Refused = cc in sym given ∙ a) in
    unread (λ memory. absurd (let m : fault_of (SqliteFailure OutOfMemory) ≡ Refused = ap fault_of (sym memory) ∙ same in cc))
    (subst (λ (s : Row). at < length s) (sym all) here) (text, ap (λ s. column s at) all ∙ is, utf8)
