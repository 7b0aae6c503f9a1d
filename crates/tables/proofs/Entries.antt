-- The first entry of a repository, and how it changes.
use Rattle.tables.proofs.Prelude.{◌≡◌, ◌≢◌, ℕ, suc, ◌<◌, ◌+◌, ℤ, Bool, true, false, List, [], ◌∷◌, ◌++◌, length, take, drop, set, get_or, find, map, Some, None, Option, is_some, option_map, refl, sym, ap, subst, ◌∙◌, arith, AllByRecursion, is_eq-slice_cmp, bytes_eq-Decides, all_weaker, all-append, element, repo_text, Remembered, UploadId, Upload, same_bytes, upload_number, is_entry_of, remembered_in, IsLast, IsEntryOf, IsFirst, IsNoted}
use Rattle.std.specs.Option.{option_or}
use Rattle.std.proofs.lemmas.List.{set_split, set-get_or, take_more}
use Rattle.std.proofs.lemmas.List.Folds.{find-append}

-- ---- texts

pub same_text : (a b : List ℕ) → same_bytes a b ≡ true → a ≡ b
same_text a b h = (bytes_eq-Decides a b).0 (sym (is_eq-slice_cmp a b) ∙ h)

pub itself : (a : List ℕ) → same_bytes a a ≡ true
itself a = is_eq-slice_cmp a a ∙ (bytes_eq-Decides a a).1 refl

pub other_text : (a b : List ℕ) → a ≢ b → same_bytes a b ≡ false
other_text a b apart = go (same_bytes a b) refl
  where
    go : (v : Bool) → same_bytes a b ≡ v → v ≡ false
    go true is = absurd (apart (same_text a b is))
    go false is = refl

-- ---- the first element that passes a test

module _ {X : Type 0} (p : X → Bool) where
  pub none_more : (xs : List X) (i : ℕ) (x : X) → i < length xs → x ≡ get_or xs i x → p x ≡ false → find p (take i xs) ≡ None → find p (take (i + 1) xs) ≡ None
  none_more xs i x within is not none =
      ap (find p) (take_more xs i x within) ∙ find-append p (take i xs) (get_or xs i x ∷ []) ∙ rw (none, ← is, not) refl

  split : (xs : List X) (at : ℕ) (x : X) → at < length xs → x ≡ get_or xs at x → xs ≡ take at xs ++ x ∷ drop (suc at) xs
  split xs at x within is = sym (set-get_or xs at x) ∙ ap (set xs at) (sym is) ∙ set_split xs at x within

  pub first_is : (xs : List X) (at : ℕ) (x : X) → IsFirst p xs at → x ≡ get_or xs at x → find p xs ≡ Some x
  first_is xs at x first is =
      let here : p x ≡ true = ap p is ∙ first.here x in
      ap (find p) (split xs at x first.within is) ∙ find-append p (take at xs) (x ∷ drop (suc at) xs) ∙ rw (first.before, here) refl

  pub first_set : (xs : List X) (at : ℕ) (y : X) → IsFirst p xs at → p y ≡ true → find p (set xs at y) ≡ Some y
  first_set xs at y first here = ap (find p) (set_split xs at y first.within) ∙ find-append p (take at xs) (y ∷ drop (suc at) xs) ∙ rw (first.before, here) refl

  skip : (x : X) (xs : List X) → p x ≡ false → find p (x ∷ xs) ≡ find p xs
  skip x xs not = rw not refl

  -- an element that does not pass changes to one that does not
  pub other_set : (xs : List X) (at : ℕ) (x y : X) → at < length xs → x ≡ get_or xs at x → p x ≡ false → p y ≡ false → find p (set xs at y) ≡ find p xs
  other_set xs at x y within is was now =
      ap (find p) (set_split xs at y within) ∙ find-append p (take at xs) (y ∷ drop (suc at) xs)
      ∙ ap (option_or (find p (take at xs))) (skip y (drop (suc at) xs) now ∙ sym (skip x (drop (suc at) xs) was)) ∙ sym (find-append p (take at xs) (x ∷ drop (suc at) xs)) ∙ ap (find p) (sym (split xs at x within is))

  pub first_push : (xs : List X) (y : X) → find p xs ≡ None → p y ≡ true → find p (xs ++ y ∷ []) ≡ Some y
  first_push xs y none here = find-append p xs (y ∷ []) ∙ rw (none, here) refl

  or_none : (o : Option X) → option_or o None ≡ o
  or_none None = refl
  or_none (Some x) = refl

  pub other_push : (xs : List X) (y : X) → p y ≡ false → find p (xs ++ y ∷ []) ≡ find p xs
  other_push xs y now = find-append p xs (y ∷ []) ∙ rw now (or_none (find p xs))

-- ---- a new id

module _ (known : List Remembered) (repo : List ℕ) (id : UploadId) where
  not_of : (r : Remembered) → repo_text r.repo ≡ repo → (other : List ℕ) → other ≢ repo → is_entry_of other r ≡ false
  not_of r is other apart = other_text (repo_text r.repo) other (λ same. apart (sym same ∙ is))

  -- in place of the one before
  pub noted_at : (at : ℕ) (r : Remembered) (new : List Remembered) → IsFirst (is_entry_of repo) known at → r ≡ get_or known at r → new ≡ set known at (record r { id = id }) → IsNoted known repo (upload_number id) new
  noted_at at r new first is set_is =
      let there : is_entry_of repo r ≡ true = ap (is_entry_of repo) is ∙ first.here r in
      let named : repo_text r.repo ≡ repo = same_text (repo_text r.repo) repo there in
      record {
        here = ap (λ l. remembered_in l repo) set_is ∙ ap (option_map (λ (x : Remembered). upload_number x.id)) (first_set (is_entry_of repo) known at (record r { id = id }) first there);
        others = λ other apart. ap (λ l. remembered_in l other) set_is
            ∙ ap (option_map (λ (x : Remembered). upload_number x.id)) (other_set (is_entry_of other) known at r (record r { id = id }) first.within is (not_of r named other apart) (not_of r named other apart));
      }

  -- in a new entry
  pub noted_new : (r : Remembered) (new : List Remembered) → find (is_entry_of repo) known ≡ None → repo_text r.repo ≡ repo → r.id ≡ id → new ≡ known ++ r ∷ [] → IsNoted known repo (upload_number id) new
  noted_new r new none named is_id pushed = record {
    here = ap (λ l. remembered_in l repo) pushed
        ∙ ap (option_map (λ (x : Remembered). upload_number x.id)) (first_push (is_entry_of repo) known r none (subst (λ n. same_bytes (repo_text r.repo) n ≡ true) named (itself (repo_text r.repo)))) ∙ ap (λ i. Some (upload_number i)) is_id;
    others = λ other apart. ap (λ l. remembered_in l other) pushed ∙ ap (option_map (λ (x : Remembered). upload_number x.id)) (other_push (is_entry_of other) known r (not_of r named other apart));
  }

-- ---- entries made of rows

pub none_known : (o : Option UploadId) → is_some o ≡ false → option_map upload_number o ≡ None
none_known None h = refl
none_known (Some id) h = absurd (let e : true ≡ false = h in cc)

-- what is remembered stays, whatever entry is added
pub last_push : (known : List Remembered) (r : Remembered) (u : Upload) → IsLast known u → IsLast (known ++ r ∷ []) u
last_push known r u h = go (find (is_entry_of u.repo) known) refl h
  where
    go : (o : Option Remembered) → find (is_entry_of u.repo) known ≡ o → option_map (λ (x : Remembered). upload_number x.id) o ≡ Some u.id → remembered_in (known ++ r ∷ []) u.repo ≡ Some u.id
    go None is e = absurd (let a : None ≡ Some u.id = e in cc)
    go (Some x) is e =
        let still : find (is_entry_of u.repo) (known ++ r ∷ []) ≡ Some x = find-append (is_entry_of u.repo) known (r ∷ []) ∙ ap (λ o. option_or o (find (is_entry_of u.repo) (r ∷ []))) is in
        ap (option_map (λ (y : Remembered). upload_number y.id)) still ∙ e

nothing_of : {X : Type 0} (f : X → ℤ) (o : Option X) → option_map f o ≡ None → o ≡ None
nothing_of f None h = refl
nothing_of f (Some x) h = absurd (let a : Some (f x) ≡ None = h in cc)

-- one more row
pub last_more : {R : Type 0} (show : Upload → R) (rows : List R) (us : List Upload) (i : ℕ) (row : R) (r : Remembered) (known new : List Remembered) → rows ≡ map show us → i < length rows → row ≡ get_or rows i row
    → ((u : Upload) → row ≡ show u → IsEntryOf u r) → remembered_in known (repo_text r.repo) ≡ None → AllByRecursion (IsLast known) (take i us) → new ≡ known ++ r ∷ [] → AllByRecursion (IsLast new) (take (i + 1) us)
last_more show rows us i row r known new all within at reads none before pushed =
    let here = element show (λ (u : Upload). u) (λ (u : Upload). u) row us i (subst (λ l. i < length l) all within) in
    let entry = reads here.0 (at ∙ ap (λ l. get_or l i row) all ∙ here.1) in
    let noted = noted_new known (repo_text r.repo) r.id r new (nothing_of (λ (x : Remembered). upload_number x.id) _ none) refl refl pushed in
    let last : IsLast new here.0 = ap (remembered_in new) (sym entry.repo) ∙ noted.here ∙ ap Some entry.id in
    let next : suc i ≡ i + 1 = omega arith in
    let more : take (i + 1) us ≡ take i us ++ here.0 ∷ [] = sym (ap (λ n. take n us) next) ∙ here.2 in
    let kept = all_weaker (IsLast known) (IsLast new) (λ u h. subst (λ l. IsLast l u) (sym pushed) (last_push known r u h)) (take i us) before in
    subst (AllByRecursion (IsLast new)) (sym more) (all-append (IsLast new) (take i us) (here.0 ∷ []) kept (last, tt))
