-- An upload that is begun replaces the staged one of its repository, which the store remembers.
use Rattle.tables.proofs.Prelude.{◌≡◌, ◌≢◌, ℕ, ℤ, ◌<ℤ◌, Bool, true, false, cond, not, List, [], ◌∷◌, find, filter, Some, None, Option, IfSome, IsTrue, refl, sym, ap, subst, ◌∙◌, arith, AllByRecursion, Vec, int_eq, ints, all_weaker, all_kept, all_both, all-append, Held, state, Ghosts, NewUpload, Remembered, Upload, Tables, same_bytes, is_upload, is_staged, is_staged_in, is_staged_with, asked_upload, IsAbove, without_found, repo_text, remembered_in, IsRemembered, IsNoted, IsLastOf, HasLast, true≢false}
use Rattle.sqlite_keyed.proofs.KeyedLemmas.{same_int}
use Rattle.sqlite_keyed.proofs.ListLemmas.{all_of}
use Rattle.sqlite_keyed.proofs.RuleLemmas.{first_of_both, second_of_both}
use Rattle.tables.specs.Statements.{with_upload, without_row, without_chunks}
use Rattle.tables.specs.Staging.{staged_with, without_upload, without_staged_in, after_begin}
use Rattle.tables.specs.Remembered.{KnowsStaged}
use Rattle.tables.proofs.Recalled.{found_keeps}
use Rattle.tables.proofs.Entries.{same_text, itself}

-- ---- lists

module _ {X : Type 0} (p : X → Bool) where
  some_same : {x y : X} → ◌≡◌ {A = Option X} (Some x) (Some y) → x ≡ y
  some_same e = cc

  -- the element that was found passes, and has what all elements have
  found_has : (P : X → Type 0) (xs : List X) (x : X) → AllByRecursion P xs → find p xs ≡ Some x → (p x ≡ true) × P x
  found_has P [] x all is = absurd (let e : None ≡ Some x = is in cc)
  found_has P (y ∷ ys) x all is = go (p y) refl (found_has P ys x all.1) is
    where
      go : (b : Bool) → p y ≡ b → (find p ys ≡ Some x → (p x ≡ true) × P x) → cond b (Some y) (find p ys) ≡ Some x → (p x ≡ true) × P x
      go true passes rest e = let same : y ≡ x = some_same e in (ap p (sym same) ∙ passes, subst P same all.0)
      go false fails rest e = rest e

  none_passes : (xs : List X) → find p xs ≡ None → AllByRecursion (λ x. p x ≡ false) xs
  none_passes [] is = tt
  none_passes (y ∷ ys) is = go (p y) refl (none_passes ys) is
    where
      go : (b : Bool) → p y ≡ b → (find p ys ≡ None → AllByRecursion (λ x. p x ≡ false) ys) → cond b (Some y) (find p ys) ≡ None → AllByRecursion (λ x. p x ≡ false) (y ∷ ys)
      go true passes rest e = absurd (let a : Some y ≡ None = e in cc)
      go false fails rest e = (fails, rest e)

  -- what each element has if it passes, each has that is left
  all_left : (P : X → Type 0) (xs : List X) → AllByRecursion (λ x. p x ≡ true → P x) xs → AllByRecursion P (filter p xs)
  all_left P [] all = tt
  all_left P (y ∷ ys) all = go (p y) refl (all_left P ys all.1)
    where
      go : (b : Bool) → p y ≡ b → AllByRecursion P (filter p ys) → AllByRecursion P (cond b (y ∷ filter p ys) (filter p ys))
      go true passes rest = (all.0 passes, rest)
      go false fails rest = rest

module _ {X : Type 0} (p q : X → Bool) where
  -- if no element passes a test, none passes a stricter one
  none_too : (xs : List X) → AllByRecursion (λ x. q x ≡ true → p x ≡ true) xs → find p xs ≡ None → find q xs ≡ None
  none_too [] all is = refl
  none_too (y ∷ ys) all is = go (p y) (q y) refl refl (none_too ys all.1) is
    where
      go : (a b : Bool) → p y ≡ a → q y ≡ b → (find p ys ≡ None → find q ys ≡ None) → cond a (Some y) (find p ys) ≡ None → cond b (Some y) (find q ys) ≡ None
      go true b x z rest e = absurd (let s : Some y ≡ None = e in cc)
      go false true x z rest e = absurd (let s : true ≡ false = sym (all.0 z) ∙ x in cc)
      go false false x z rest e = rest e

  -- if no element passes a stricter test but those that pass this one, and the first of these passes it, it is the first
  found_too : (xs : List X) (x : X) → AllByRecursion (λ y. q y ≡ true → p y ≡ true) xs → find p xs ≡ Some x → q x ≡ true → find q xs ≡ Some x
  found_too [] x all is here = absurd (let e : None ≡ Some x = is in cc)
  found_too (y ∷ ys) x all is here = go (p y) (q y) refl refl (λ e. found_too ys x all.1 e here) is
    where
      go : (a b : Bool) → p y ≡ a → q y ≡ b → (find p ys ≡ Some x → find q ys ≡ Some x) → cond a (Some y) (find p ys) ≡ Some x → cond b (Some y) (find q ys) ≡ Some x
      go true true e f rest found = found
      go true false e f rest found = let same : y ≡ x = some_same p found in absurd (let s : true ≡ false = sym here ∙ ap q (sym same) ∙ f in cc)
      go false true e f rest found = absurd (let s : true ≡ false = sym (all.0 f) ∙ e in cc)
      go false false e f rest found = rest found

  -- if an element that one test found passes another, that one finds an element
  some_too : (xs : List X) (x : X) → find p xs ≡ Some x → q x ≡ true → (y : X) × (find q xs ≡ Some y)
  some_too [] x is here = absurd (let e : None ≡ Some x = is in cc)
  some_too (y ∷ ys) x is here = go (p y) (q y) refl (λ e. some_too ys x e here) is
    where
      go : (a b : Bool) → q y ≡ b → (find p ys ≡ Some x → (z : X) × (find q ys ≡ Some z)) → cond a (Some y) (find p ys) ≡ Some x → (z : X) × (cond b (Some y) (find q ys) ≡ Some z)
      go a true f rest e = (y, refl)
      go true false f rest e = let same : y ≡ x = some_same p e in absurd (let s : true ≡ false = sym here ∙ ap q (sym same) ∙ f in cc)
      go false false f rest e = rest e

-- ---- the last upload of the repository

is_itself : (id : ℤ) → int_eq id id ≡ true
is_itself id = grind (arith, ints)

some_id : {a b : ℤ} → ◌≡◌ {A = Option ℤ} (Some a) (Some b) → a ≡ b
some_id e = cc

-- a staged upload of the repository has the id of the last one
last_passes : (id : ℤ) (repo : List ℕ) (u : Upload) → (IsTrue (is_staged_in repo u) → Some id ≡ Some u.id) → is_staged_in repo u ≡ true → is_staged_with id u ≡ true
last_passes id repo u last staged =
    let same : id ≡ u.id = some_id (last staged) in
    let one : is_upload id u ≡ true = ap (λ i. int_eq u.id i) same ∙ is_itself u.id in
    rw (one, second_of_both (same_bytes u.repo repo) (is_staged u) staged) refl

module _ (repo : List ℕ) (t : Tables) where
  -- no upload of the repository is staged
  pub none_staged : find (is_staged_in repo) t.uploads ≡ None → t ≡ without_staged_in repo t
  unfolding without_staged_in
  none_staged none = sym (ap (λ o. without_found o t) none)

  pub no_last : IsLastOf None repo t → find (is_staged_in repo) t.uploads ≡ None
  no_last last = go (find (is_staged_in repo) t.uploads) refl
    where
      go : (o : Option Upload) → find (is_staged_in repo) t.uploads ≡ o → o ≡ None
      go None is = refl
      go (Some u) is = let it = found_has (is_staged_in repo) (λ u. IsTrue (is_staged_in repo u) → None ≡ Some u.id) t.uploads u last is in absurd (let e : None ≡ Some u.id = it.1 it.0 in cc)

  pub none_last : IsLastOf None repo t → t ≡ without_staged_in repo t
  none_last last = none_staged (no_last last)

  module _ (id : ℤ) (last : IsLastOf (Some id) repo t) where
    passes_too : AllByRecursion (λ u. is_staged_in repo u ≡ true → is_staged_with id u ≡ true) t.uploads
    passes_too = all_weaker (λ u. IsTrue (is_staged_in repo u) → Some id ≡ Some u.id) (λ u. is_staged_in repo u ≡ true → is_staged_with id u ≡ true) (λ u h. last_passes id repo u h) t.uploads last

    pub none_found_last : staged_with id t ≡ None → find (is_staged_in repo) t.uploads ≡ None
    none_found_last none = none_too (is_staged_with id) (is_staged_in repo) t.uploads passes_too none

    -- the upload that is staged under the id of the last one, if it is the repository's
    pub found_last : (u : Upload) → staged_with id t ≡ Some u → same_bytes u.repo repo ≡ true → find (is_staged_in repo) t.uploads ≡ Some u
    found_last u found named =
        let passes = (found_has (is_staged_with id) (λ _. Unit {0}) t.uploads u (all_of (λ _. Unit {0}) (λ _. tt) t.uploads) found).0 in
        found_too (is_staged_with id) (is_staged_in repo) t.uploads u passes_too found (rw (named, second_of_both (is_upload id u) (is_staged u) passes) refl)

    -- nothing is staged under the id of the last one
    pub not_staged : staged_with id t ≡ None → t ≡ without_staged_in repo t
    not_staged none = none_staged (none_found_last none)

    -- a staged upload of the repository has this id
    has_id : (w : Upload) → find (is_staged_in repo) t.uploads ≡ Some w → w.id ≡ id
    has_id w is = let it = found_has (is_staged_in repo) (λ u. IsTrue (is_staged_in repo u) → Some id ≡ Some u.id) t.uploads w last is in sym (some_id (it.1 it.0))

    -- the last one is staged
    pub last_staged : (u : Upload) → staged_with id t ≡ Some u → same_bytes u.repo repo ≡ true → without_upload id t ≡ without_staged_in repo t
    unfolding without_staged_in
    last_staged u found named =
        let passes = (found_has (is_staged_with id) (λ _. Unit {0}) t.uploads u (all_of (λ _. Unit {0}) (λ _. tt) t.uploads) found).0 in
        let staged : is_staged_in repo u ≡ true = rw (named, second_of_both (is_upload id u) (is_staged u) passes) refl in
        let other = some_too (is_staged_with id) (is_staged_in repo) t.uploads u found staged in
        sym (ap (λ o. without_found o t) other.1 ∙ ap (λ i. without_upload i t) (has_id other.0 other.1))

    -- an id that is greater than each one that is left, and than the last one, is greater than each one
    pub above_all : (new : ℤ) → IsAbove (without_staged_in repo t) new → id <ℤ new → IsAbove t new
    unfolding without_staged_in without_upload without_row without_chunks
    above_all new above less = go (find (is_staged_in repo) t.uploads) refl above
      where
        each : (w u : Upload) → w.id ≡ id → (not (is_upload w.id u) ≡ true → u.id <ℤ new) → u.id <ℤ new
        each w u is h = by_test (is_upload w.id u) refl
          where
            by_test : (b : Bool) → is_upload w.id u ≡ b → u.id <ℤ new
            by_test true e = let same : u.id ≡ id = same_int u.id w.id e ∙ is in subst (λ i. i <ℤ new) (sym same) less
            by_test false e = h (ap not e)

        go : (o : Option Upload) → find (is_staged_in repo) t.uploads ≡ o → IsAbove (without_found o t) new → IsAbove t new
        go None is h = h
        go (Some w) is h =
            all_weaker (λ u. not (is_upload w.id u) ≡ true → u.id <ℤ new) (λ u. u.id <ℤ new) (λ u k. each w u (has_id w is) k) t.uploads (all_kept (λ u. u.id <ℤ new) (λ u. not (is_upload w.id u)) t.uploads h)

-- ---- what is remembered

-- the last upload of a repository is the one that is remembered
pub last_is_remembered : (known : Vec Remembered) (repo : List ℕ) (t : Tables) → KnowsStaged (Some known) t.uploads → IsLastOf (remembered_in known.items repo) repo t
unfolding KnowsStaged
last_is_remembered known repo t knows =
    all_weaker (IsRemembered known.items) (λ u. IsTrue (is_staged_in repo u) → remembered_in known.items repo ≡ Some u.id) (λ u h staged.
    ap (remembered_in known.items) (sym (same_text u.repo repo (first_of_both (same_bytes u.repo repo) (is_staged u) staged))) ∙ h (second_of_both (same_bytes u.repo repo) (is_staged u) staged)) t.uploads knows

-- no upload of the repository is left staged
left_unstaged : (last : Option ℤ) (repo : List ℕ) (t : Tables) → IsLastOf last repo t → AllByRecursion (λ u. is_staged_in repo u ≡ false) (without_staged_in repo t).uploads
unfolding without_staged_in without_upload without_row without_chunks
left_unstaged last repo t only = go (find (is_staged_in repo) t.uploads) refl
  where
    each : (w u : Upload) → last ≡ Some w.id → (IsTrue (is_staged_in repo u) → last ≡ Some u.id) → not (is_upload w.id u) ≡ true → is_staged_in repo u ≡ false
    each w u is h other = by_test (is_staged_in repo u) refl
      where
        by_test : (b : Bool) → is_staged_in repo u ≡ b → b ≡ false
        by_test false e = refl
        by_test true e =
            let same : w.id ≡ u.id = some_id (sym is ∙ h e) in
            absurd (let s : false ≡ true = sym (ap not (ap (λ i. int_eq u.id i) same ∙ is_itself u.id)) ∙ other in cc)

    go : (o : Option Upload) → find (is_staged_in repo) t.uploads ≡ o → AllByRecursion (λ u. is_staged_in repo u ≡ false) (without_found o t).uploads
    go None is = none_passes (is_staged_in repo) t.uploads is
    go (Some w) is =
        let it = found_has (is_staged_in repo) (λ u. IsTrue (is_staged_in repo u) → last ≡ Some u.id) t.uploads w only is in
        all_left (λ u. not (is_upload w.id u)) (λ u. is_staged_in repo u ≡ false) t.uploads
        (all_weaker (λ u. IsTrue (is_staged_in repo u) → last ≡ Some u.id) (λ u. not (is_upload w.id u) ≡ true → is_staged_in repo u ≡ false) (λ u h. each w u (it.1 it.0) h) t.uploads only)

-- the same in a transaction that has just begun
pub has_last_begun : {S : Type 0} (g : Ghosts S) (last : Option ℤ) (repo : List ℕ) (old begun : Held S) → begun ≡ record old { in_transaction = true } → HasLast last repo (state g old) → HasLast last repo (state g begun)
has_last_begun {S} g last repo old begun same h = subst (λ (b : Held S). HasLast last repo (state g b)) (sym same) record { ready = h.ready; only = h.only }

-- after the step, each staged upload is remembered again
pub begun_is_remembered : (known : Vec Remembered) (noted : Option (Vec Remembered)) (u : NewUpload) (id : ℤ) (t : Tables) → KnowsStaged (Some known) t.uploads
    → IfSome noted (λ new. IsNoted known.items (repo_text u.repo.now) id new.items) → KnowsStaged noted (after_begin (asked_upload u id) t).uploads
unfolding KnowsStaged after_begin with_upload without_staged_in
begun_is_remembered known None u id t knows noted = tt
begun_is_remembered known (Some new) u id t knows noted =
    let repo = repo_text u.repo.now in
    let left = (without_staged_in repo t).uploads in
    let kept : AllByRecursion (IsRemembered known.items) left = found_keeps (find (is_staged_in repo) t.uploads) (Some known) t knows in
    let unstaged = left_unstaged (remembered_in known.items repo) repo t (last_is_remembered known repo t knows) in
    let each : (w : Upload) → IsRemembered known.items w → is_staged_in repo w ≡ false → IsRemembered new.items w = λ w was other staged.
    let apart : w.repo ≢ repo = λ same.
    let named : same_bytes w.repo repo ≡ true = ap (same_bytes w.repo) (sym same) ∙ itself w.repo in
    let both : is_staged_in repo w ≡ true = rw (named, staged) refl in
    true≢false (sym both ∙ other) in
    noted.others w.repo apart ∙ was staged in
    all-append (IsRemembered new.items) left (asked_upload u id ∷ []) (all_both (IsRemembered known.items) (λ w. is_staged_in repo w ≡ false) (IsRemembered new.items) each left kept unstaged) (λ _. noted.here, tt)
