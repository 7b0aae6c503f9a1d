-- The result of a lock request, in the tables and in the world.
use Rattle.refinement.proofs.Prelude.{◌≡◌, ◌+ℤ◌, ℕ, ◌+◌, ◌<◌, ◌≤◌, ℤ, pos, Bool, true, false, find, cond, Option, Some, None, option_map, refl, sym, ap, ◌∙◌, arith, ◌⊎◌, inl, inr, ◌≢◌, nat_lt, int_eq, true≢false, cases_eq, Decides-int_eq, none-some, ints, last_lock_id, World, IsWorld, Lock, Tables, is_at, LockFields, lock_fields, made_of, held, used_up, created, outcome_by, outcome_of, greatest_id, lock_kept, lock_row, Represents, lock_on}
use Rattle.tables.specs.Rows as row
use Rattle.refinement.proofs.Lookups.{lock_found}

created_by : (o : Option row.Lock) (made n : ℤ) → created n ≡ outcome_by o made → (o ≡ None) × (int_eq made greatest_id ≡ false) × (n ≡ made +ℤ pos 1)
created_by (Some l) made n e = absurd (cc)
created_by None made n e = at (int_eq made greatest_id) refl e
  where
    at : (v : Bool) → int_eq made greatest_id ≡ v → created n ≡ cond v used_up (created (made +ℤ pos 1))
        → (◌≡◌ {A = Option row.Lock} None None) × (int_eq made greatest_id ≡ false) × (n ≡ made +ℤ pos 1)
    at true is e = absurd (cc)
    at false is e = (refl, is, cc)

held_by : (o : Option row.Lock) (made : ℤ) (f : LockFields) → held f ≡ outcome_by o made → (l : row.Lock) × (o ≡ Some l) × (f ≡ lock_fields l)
held_by (Some l) made f e = (l, refl, cc)
held_by None made f e = at (int_eq made greatest_id) e
  where
    at : (v : Bool) → held f ≡ cond v used_up (created (made +ℤ pos 1)) → (l : row.Lock) × (None ≡ Some l) × (f ≡ lock_fields l)
    at true e = absurd (cc)
    at false e = absurd (cc)

used_by : (o : Option row.Lock) (made : ℤ) → used_up ≡ outcome_by o made → (o ≡ None) × (int_eq made greatest_id ≡ true)
used_by (Some l) made e = absurd (cc)
used_by None made e = at (int_eq made greatest_id) refl e
  where
    at : (v : Bool) → int_eq made greatest_id ≡ v → used_up ≡ cond v used_up (created (made +ℤ pos 1)) → (◌≡◌ {A = Option row.Lock} None None) × (int_eq made greatest_id ≡ true)
    at true is e = (refl, is)
    at false is e = absurd (cc)

none_there : (o : Option row.Lock) (p : Option Lock) → o ≡ None → option_map lock_kept o ≡ option_map lock_row p → p ≡ None
none_there o None e same = refl
none_there o (Some l) e same = absurd (none-some (lock_row l) (sym (ap (option_map lock_kept) e) ∙ same))

some_there : (o : Option row.Lock) (p : Option Lock) (l : row.Lock) → o ≡ Some l → option_map lock_kept o ≡ option_map lock_row p
    → (k : Lock) × (p ≡ Some k) × (lock_kept l ≡ lock_row k)
some_there o (Some k) l e same = (k, refl, some_same (sym (ap (option_map lock_kept) e) ∙ same))
  where
    some_same : Some (lock_kept l) ≡ Some (lock_row k) → lock_kept l ≡ lock_row k
    some_same e = cc
some_there o None l e same = absurd (none-some (lock_kept l) (sym (sym (ap (option_map lock_kept) e) ∙ same)))

-- a count below the greatest id
below_last : (made : ℤ) (n : ℕ) → made ≡ pos n → n ≤ last_lock_id → int_eq made greatest_id ≡ false → n < last_lock_id
below_last made n e within differ = at (cases_eq n last_lock_id)
  where
    at : (n ≡ last_lock_id) ⊎ (n ≢ last_lock_id) → n < last_lock_id
    at (inl last) = absurd (true≢false (sym (ap (λ m. int_eq m greatest_id) (e ∙ ap pos last)) ∙ differ))
    at (inr other) = omega arith

all_made : (made : ℤ) (n : ℕ) → made ≡ pos n → int_eq made greatest_id ≡ true → nat_lt n last_lock_id ≡ false
all_made made n e is =
    let last : pos n ≡ pos last_lock_id = sym e ∙ (Decides-int_eq made greatest_id).0 is in
    let same : n ≡ last_lock_id = omega (arith, ints, last) in ap (λ k. nat_lt k last_lock_id) same

pub outcome_created : (t : Tables) (world : World) (asked : row.Lock) (n : ℕ) → Represents t world → IsWorld world → created (pos n) ≡ outcome_of asked t
    → (lock_on asked.repo asked.ref_name asked.path world ≡ None) × (world.made asked.repo < last_lock_id) × (n ≡ world.made asked.repo + 1)
outcome_created t world asked n s w e =
    let by = created_by (find (is_at asked.repo asked.ref_name asked.path) t.locks) (made_of asked.repo t) (pos n) e in
    let count : pos n ≡ pos (world.made asked.repo) +ℤ pos 1 = by.2 ∙ ap (λ m. m +ℤ pos 1) (s.made asked.repo) in (
      none_there _ (lock_on asked.repo asked.ref_name asked.path world) by.0 (lock_found t world asked.repo asked.ref_name asked.path s w),
      below_last (made_of asked.repo t) (world.made asked.repo) (s.made asked.repo) (w.made asked.repo) by.1,
      omega (arith, ints, count),
    )

pub outcome_held : (t : Tables) (world : World) (asked : row.Lock) (f : LockFields) → Represents t world → IsWorld world → held f ≡ outcome_of asked t
    → (l : Lock) × (lock_on asked.repo asked.ref_name asked.path world ≡ Some l) × (f ≡ lock_fields (lock_row l))
outcome_held t world asked f s w e =
    let by = held_by (find (is_at asked.repo asked.ref_name asked.path) t.locks) (made_of asked.repo t) f e in
    let there = some_there _ (lock_on asked.repo asked.ref_name asked.path world) by.0 by.1 (lock_found t world asked.repo asked.ref_name asked.path s w) in
    (there.0, there.1, by.2 ∙ ap lock_fields there.2)

pub outcome_used : (t : Tables) (world : World) (asked : row.Lock) → Represents t world → IsWorld world → used_up ≡ outcome_of asked t
    → (lock_on asked.repo asked.ref_name asked.path world ≡ None) × (nat_lt (world.made asked.repo) last_lock_id ≡ false)
outcome_used t world asked s w e =
    let by = used_by (find (is_at asked.repo asked.ref_name asked.path) t.locks) (made_of asked.repo t) e in (
      none_there _ (lock_on asked.repo asked.ref_name asked.path world) by.0 (lock_found t world asked.repo asked.ref_name asked.path s w),
      all_made (made_of asked.repo t) (world.made asked.repo) (s.made asked.repo) by.1,
    )

-- the id of the lock to be made
pub outcome_number : (t : Tables) (world : World) (asked : row.Lock) (n : ℤ) → Represents t world → created n ≡ outcome_of asked t → n ≡ pos (world.made asked.repo + 1)
outcome_number t world asked n s e =
    let by = created_by (find (is_at asked.repo asked.ref_name asked.path) t.locks) (made_of asked.repo t) n e in
    let count : n ≡ pos (world.made asked.repo) +ℤ pos 1 = by.2 ∙ ap (λ m. m +ℤ pos 1) (s.made asked.repo) in omega (arith, ints, count)
