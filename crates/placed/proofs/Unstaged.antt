-- Tables from which the staged uploads whose chunks are in rows were removed have no chunk of a staged upload.
use Rattle.placed.proofs.Prelude.{◌≡◌, inl, inr, ℤ, Bool, true, false, not, cond, ◌&&◌, List, [], ◌∷◌, map, filter, find, Option, Some, None, is_some, refl, sym, ap, subst, ◌∙◌, true≢false, arith, ints, AllByRecursion, all_weaker, filter_all, int_eq, same_int, Upload, Chunk, Tables, is_of, is_staged, is_staged_with, is_upload, staged_with, is_of_staged, settled, without_found, without_row, without_chunks, without_staged, without_upload}
use Rattle.std.specs.Prelude.{◌⊎◌, ◌||◌}
use Rattle.std.specs.List.{list_any}
use Rattle.sqlite_keyed.proofs.ListLemmas.{all_both}
use Rattle.placed.specs.Opening.{chunked_ids, cleared, has_chunk, staged_ids, without_all}
use Rattle.placed.proofs.Views.{found_id}

-- this is one of the ids
abbrev IsOneOf : List ℤ → ℤ → Type 0
IsOneOf [] k = ⊥
IsOneOf (id ∷ ids) k = (k ≡ id) ⊎ IsOneOf ids k

-- the upload has one of these ids, if it is staged and one of the chunks is of it
abbrev IsListed : List Chunk → List ℤ → Upload → Type 0
IsListed cs ids u = is_staged u ≡ true → has_chunk cs u.id ≡ true → IsOneOf ids u.id

-- each staged upload of which there is a chunk has one of these ids
abbrev AreListed : List ℤ → Tables → Type 0
AreListed ids t = AllByRecursion (IsListed t.chunks ids) t.uploads

-- the ids of the staged ones among these uploads of which there is a chunk
abbrev listed_ids : List Chunk → List Upload → List ℤ
listed_ids cs us = filter (has_chunk cs) (staged_ids us)

all_listed : (cs : List Chunk) (us : List Upload) → AllByRecursion (IsListed cs (listed_ids cs us)) us
all_listed cs [] = tt
all_listed cs (u ∷ us) = at (is_staged u) refl (all_listed cs us)
  where
    here : (chunked : Bool) → has_chunk cs u.id ≡ chunked → AllByRecursion (IsListed cs (listed_ids cs us)) us
        → AllByRecursion (IsListed cs (cond chunked (u.id ∷ listed_ids cs us) (listed_ids cs us))) (u ∷ us)
    here true has rest = (
      (λ _ _. inl refl),
      all_weaker (IsListed cs (listed_ids cs us)) _ (λ v one staged chunked. inr (one staged chunked)) us rest,
    )
    here false has rest = ((λ _ chunked. absurd (true≢false (sym chunked ∙ has))), rest)

    at : (staged : Bool) → is_staged u ≡ staged → AllByRecursion (IsListed cs (listed_ids cs us)) us
        → AllByRecursion
        (IsListed cs (filter (has_chunk cs) (map (λ (v : Upload). v.id) (cond staged (u ∷ filter is_staged us) (filter is_staged us)))))
        (u ∷ us)
    at true is rest = here (has_chunk cs u.id) refl rest
    at false is rest = ((λ staged _. absurd (true≢false (sym staged ∙ is))), rest)

-- what holds of the elements that pass holds of all that a filter keeps
passing : {A : Type 0} (P : A → Type 0) (p : A → Bool) (xs : List A) → AllByRecursion (λ x. p x ≡ true → P x) xs
    → AllByRecursion P (filter p xs)
passing P p [] all = tt
passing {A} P p (x ∷ xs) all = at (p x) refl (passing P p xs all.1)
  where
    at : (b : Bool) → p x ≡ b → AllByRecursion P (filter p xs)
        → AllByRecursion P (cond b (x ∷ filter p xs) (filter p xs))
    at true is rest = (all.0 is, rest)
    at false is rest = rest

none_passes : {A : Type 0} (p : A → Bool) (xs : List A) → find p xs ≡ None → AllByRecursion (λ x. p x ≡ false) xs
none_passes p [] none = tt
none_passes {A} p (x ∷ xs) none = at (p x) refl none (none_passes p xs)
  where
    at : (b : Bool) → p x ≡ b → cond b (Some x) (find p xs) ≡ None
        → (find p xs ≡ None → AllByRecursion (λ y. p y ≡ false) xs)
        → (p x ≡ false) × AllByRecursion (λ y. p y ≡ false) xs
    at true is e rest = absurd (true≢false (ap is_some e))
    at false is e rest = (is, rest e)

-- what a filter keeps has no element that the list has not
kept_any : {A : Type 0} (p q : A → Bool) (xs : List A) → list_any p (filter q xs) ≡ true → list_any p xs ≡ true
kept_any p q [] has = has
kept_any {A} p q (x ∷ xs) has = at (q x) (p x) refl has (kept_any p q xs)
  where
    at : (keeps passes : Bool) → p x ≡ passes → list_any p (cond keeps (x ∷ filter q xs) (filter q xs)) ≡ true
        → (list_any p (filter q xs) ≡ true → list_any p xs ≡ true) → (passes || list_any p xs) ≡ true
    at keeps true is has rest = refl
    at true false is has rest = rest (ap (λ b. b || list_any p (filter q xs)) (sym is) ∙ has)
    at false false is has rest = rest has

itself : (a : ℤ) → int_eq a a ≡ true
itself a = grind (arith, ints)

-- a staged upload with another id has one of the others
one_less : (id : ℤ) (ids : List ℤ) (k : ℤ) → (k ≡ id → ⊥) → IsOneOf (id ∷ ids) k → IsOneOf ids k
one_less id ids k other one = elim one [ inl same ↦ absurd (other same) | inr rest ↦ rest ]

fewer_listed : (id : ℤ) (ids : List ℤ) (t : Tables) → AreListed (id ∷ ids) t → AreListed ids (without_staged id t)
unfolding without_staged without_upload without_row without_chunks
fewer_listed id ids t all = at (staged_with id t) refl
  where
    at : (o : Option Upload) → staged_with id t ≡ o → AreListed ids (without_found o t)
    at None none =
        all_both (IsListed t.chunks (id ∷ ids)) (λ u. is_staged_with id u ≡ false) (IsListed t.chunks ids)
        (λ u one no staged chunked.
        one_less id ids u.id (λ same. true≢false (sym (found u staged same) ∙ no)) (one staged chunked))
        t.uploads all (none_passes (is_staged_with id) t.uploads none)
      where
        found : (u : Upload) → is_staged u ≡ true → u.id ≡ id → is_staged_with id u ≡ true
        found u staged same = rw (ap (λ k. int_eq k id) same ∙ itself id, staged) refl
    at (Some s) is =
        passing _ (λ u. not (is_upload s.id u)) t.uploads
        (all_weaker (IsListed t.chunks (id ∷ ids)) _
        (λ u one stays staged chunked.
        one_less id ids u.id (λ same. true≢false (sym stays ∙ ap not (own u same)))
        (one staged (kept_any (is_of u.id) (λ c. not (is_of s.id c)) t.chunks chunked))) t.uploads all)
      where
        own : (u : Upload) → u.id ≡ id → is_upload s.id u ≡ true
        own u same = ap (λ k. int_eq k s.id) (same ∙ sym (found_id id t s is)) ∙ itself s.id

none_listed : (ids : List ℤ) (t : Tables) → AreListed ids t → AreListed [] (without_all ids t)
none_listed [] t all = all
none_listed (id ∷ ids) t all = none_listed ids (without_staged id t) (fewer_listed id ids t all)

-- there is a chunk of the upload of each of the chunks
each_has : (cs : List Chunk) → AllByRecursion (λ c. has_chunk cs c.upload ≡ true) cs
each_has [] = tt
each_has (c ∷ cs) = (
  ap (λ b. b || has_chunk cs c.upload) (itself c.upload),
  all_weaker (λ (e : Chunk). has_chunk cs e.upload ≡ true) (λ e. has_chunk (c ∷ cs) e.upload ≡ true)
      (λ e has. more (is_of e.upload c) (has_chunk cs e.upload) has) cs (each_has cs),
)
  where
    more : (b has : Bool) → has ≡ true → (b || has) ≡ true
    more true has is = refl
    more false has is = is

none_with : (cs : List Chunk) (id : ℤ) (us : List Upload) → has_chunk cs id ≡ true → AllByRecursion (IsListed cs []) us
    → find (is_staged_with id) us ≡ None
none_with cs id [] has all = refl
none_with cs id (u ∷ us) has all = at (is_upload id u) (is_staged u) refl refl (none_with cs id us has all.1)
  where
    at : (own staged : Bool) → is_upload id u ≡ own → is_staged u ≡ staged → find (is_staged_with id) us ≡ None
        → cond (own && staged) (Some u) (find (is_staged_with id) us) ≡ None
    at false staged other is rest = rest
    at true false same is rest = rest
    at true true same is rest =
        absurd (all.0 is (subst (λ k. has_chunk cs k ≡ true) (sym (same_int u.id id same)) has))

settled_none : (t : Tables) → AreListed [] t → settled t ≡ t
settled_none t none =
    ap (λ (cs : List Chunk). record t { chunks = cs }) (filter_all (λ c. not (is_of_staged t.uploads c)) t.chunks
    (all_weaker (λ (c : Chunk). has_chunk t.chunks c.upload ≡ true) (λ c. not (is_of_staged t.uploads c) ≡ true)
    (λ c has. ap (λ (o : Option Upload). not (is_some o)) (none_with t.chunks c.upload t.uploads has none)) t.chunks
    (each_has t.chunks)))

-- so they have no chunks of staged uploads
pub settled_cleared : (t : Tables) → settled (cleared t) ≡ cleared t
settled_cleared t = settled_none (cleared t) (none_listed (chunked_ids t) t (all_listed t.chunks t.uploads))
