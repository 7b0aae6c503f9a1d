-- What a query asks for, by way of its pairs.
use Rattle.forms.proofs.Prelude.{◌≡◌, ℕ, true, false, List, [], ◌∷◌, ◌++◌, Option, Some, None, Result, Ok, Err, refl, codes, ◌&&◌, ◌==◌, length, arith, nat_tests, bytes_eq, raw_pairs, is_hex_64, is_lock_path, is_ref, lock_id_in, Rule, J2, ◌>>=◌, check, decode_text, query_ref, query_single, is_if_given, if_not_empty, limit_in, read_if_given, ListKeys, list_keys, list_in_range, only, values_among, within}
use Rattle.model.specs.Forms.{put_form, list_form, query_value}
use Rattle.forms.proofs.Bodies.{both_within, one_within}

-- ---- one key

-- the value that was found, if any
abbrev pub found_so_far : Option (List ℕ) → List (List ℕ)
found_so_far None = []
found_so_far (Some value) = value ∷ []

pub other_name : (key name value : List ℕ) (rest : List (List ℕ × List ℕ)) → bytes_eq (decode_text name) key ≡ false → values_among key ((name, value) ∷ rest) ≡ values_among key rest
other_name key name value rest e = rw e refl

pub same_name : (key name value : List ℕ) (rest : List (List ℕ × List ℕ)) → bytes_eq (decode_text name) key ≡ true → values_among key ((name, value) ∷ rest) ≡ decode_text value ∷ values_among key rest
same_name key name value rest e = rw e refl

pub only_found : (o : Option (List ℕ)) → only (found_so_far o ++ []) ≡ Ok o
only_found None = refl
only_found (Some value) = refl

single : (values : List (List ℕ)) → query_single values ≡ (only values >>= λ o. Ok (if_not_empty o))
single [] = refl
single ([] ∷ []) = refl
single ((b ∷ bytes) ∷ []) = refl
single (a ∷ b ∷ values) = refl

pub by_only : (key query : List ℕ) → query_value key query ≡ (only (values_among key (raw_pairs query)) >>= λ o. Ok (if_not_empty o))
unfolding query_value
by_only key query = single (values_among key (raw_pairs query))

pub empty_is_missing : (value : List ℕ) → (length value == 0) ≡ true → if_not_empty (Some value) ≡ None
empty_is_missing [] e = refl
empty_is_missing (b ∷ value) e = grind (arith, nat_tests)

pub other_is_given : (value : List ℕ) → (length value == 0) ≡ false → if_not_empty (Some value) ≡ Some value
other_is_given [] e = grind (arith, nat_tests)
other_is_given (b ∷ value) e = refl

-- ---- the request to upload

pub put_by_name : (parameter query : List ℕ) → put_form parameter query ≡ (within is_hex_64 parameter >>= λ name. query_ref query >>= λ ref. Ok (record { name = name; ref = ref }))
unfolding put_form
put_by_name parameter query =
    one_within is_hex_64 parameter (λ name. query_ref query >>= λ ref. Ok (record { name = name; ref = ref }))

-- ---- the request for locks

abbrev keys : Option (List ℕ) → Option (List ℕ) → Option (List ℕ) → Option (List ℕ) → Option (List ℕ) → ListKeys
keys path id ref cursor limit = record { path = path; id = id; ref = ref; cursor = cursor; limit = limit }

list_chain : (p i r c l : Result (Option (List ℕ)) Rule)
    → (p >>= λ path. i >>= λ id_text. r >>= λ ref. c >>= λ cursor. l >>= λ limit_text. check (is_if_given is_lock_path path && is_if_given is_ref ref) J2 >>= λ valid. read_if_given lock_id_in id_text >>= λ id. read_if_given limit_in limit_text >>= λ limit. Ok (record { path = path; id = id; ref = ref; cursor = cursor; limit = limit }))
    ≡ ((p >>= λ path. i >>= λ id. r >>= λ ref. c >>= λ cursor. l >>= λ limit. Ok (keys path id ref cursor limit)) >>= list_in_range)
list_chain (Err e) i r c l = refl
list_chain (Ok path) (Err e) r c l = refl
list_chain (Ok path) (Ok id) (Err e) c l = refl
list_chain (Ok path) (Ok id) (Ok ref) (Err e) l = refl
list_chain (Ok path) (Ok id) (Ok ref) (Ok cursor) (Err e) = refl
list_chain (Ok path) (Ok id_text) (Ok ref) (Ok cursor) (Ok limit_text) =
    both_within (is_if_given is_lock_path) (is_if_given is_ref) path ref
    (λ p r. read_if_given lock_id_in id_text >>= λ id. read_if_given limit_in limit_text >>= λ limit. Ok (record { path = p; id = id; ref = r; cursor = cursor; limit = limit }))

pub list_by_keys : (query : List ℕ) → list_form query ≡ (list_keys query >>= list_in_range)
unfolding list_form
list_by_keys query =
    list_chain (query_value (codes "path") query) (query_value (codes "id") query) (query_value (codes "refspec") query) (query_value (codes "cursor") query) (query_value (codes "limit") query)
