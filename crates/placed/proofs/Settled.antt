-- What a stop leaves: the contents that are being received are gone, and the rows of staged uploads may be too.
use Rattle.placed.proofs.Prelude.{◌≡◌, inl, inr, ℕ, ℤ, Bool, true, false, not, cond, List, [], ◌∷◌, ◌++◌, filter, find, Option, Some, None, is_some, refl, sym, ap, ap₂, ◌∙◌, append-nil, AllByRecursion, flat_map, filter-append, Region, all-filter, Upload, Chunk, Tables, is_staged_with, upload_number, arranged, is_of_staged, settled, Remains, Staged, pieces, is_place, is_piece, region_in, content_in, written_in, pieces_in, pieces_at, received_pieces, all_chunks, shown_meta, view, filter-filter}
use Rattle.placed.proofs.Owned.{filter-flat_map, pieces_owned, filter_owned}
use Rattle.placed.proofs.Lists.{flat_map_each, filter_swap}
use Rattle.placed.proofs.Arranged.{arranged-filter}
use Rattle.placed.proofs.Keeping.{AgreeAt}

-- ---- lists

-- what a filter keeps is not changed by the same filter before another one
filter_twice : {A : Type 0} (p q : A → Bool) (xs : List A) → filter p (filter q (filter p xs)) ≡ filter p (filter q xs)
filter_twice p q xs = ap (filter p) (filter_swap q p xs) ∙ filter-filter p p (λ x is. is) (filter q xs)

-- ---- without the chunks of staged uploads

module _ (us : List Upload) where
  -- the upload is a staged one
  abbrev has_staged : ℤ → Bool
  has_staged u = is_some (find (is_staged_with u) us)

  -- the chunk is not one of a staged upload
  abbrev stays : Chunk → Bool
  stays c = not (is_of_staged us c)

  -- each of the contents that are being received is one of a staged upload
  abbrev AreThere : List Staged → Type 0
  AreThere = AllByRecursion (λ s. has_staged (upload_number s.id) ≡ true)

  pieces_stay : (u : ℤ) (bytes : List ℕ) → filter stays (pieces u bytes) ≡ cond (not (has_staged u)) (pieces u bytes) []
  pieces_stay u bytes =
      filter_owned stays (not (has_staged u)) u (pieces u bytes)
      (λ c own. ap (λ n. not (has_staged n)) own) (pieces_owned u bytes)

  place_stays : (file : List ℕ) (c : Chunk) → filter stays (pieces_at file c) ≡ cond (stays c) (pieces_at file c) []
  place_stays file c = at (region_in c.bytes)
    where
      none : (b : Bool) → ◌≡◌ {A = List Chunk} [] (cond b [] [])
      none true = refl
      none false = refl

      at : (o : Option Region) → filter stays (pieces_in file c o) ≡ cond (stays c) (pieces_in file c o) []
      at None = none (stays c)
      at (Some region) = pieces_stay c.upload (content_in file region)

  staged_go : (file : List ℕ) (staged : List Staged) → AreThere staged
      → filter stays (flat_map (received_pieces file) staged) ≡ []
  staged_go file [] there = refl
  staged_go file (s ∷ staged) there =
      filter-append stays (received_pieces file s) (flat_map (received_pieces file) staged)
      ∙ ap₂ ◌++◌
      (pieces_stay (upload_number s.id) (written_in file s.draft)
      ∙ ap (λ b. cond (not b) (received_pieces file s) []) there.0)
      (staged_go file staged there.1)

  -- what is left of the chunks in the rows and of those at the places
  abbrev left_over : List ℕ → List Chunk → List Chunk
  left_over file cs = filter stays (filter is_piece cs) ++ flat_map (pieces_at file) (filter stays (filter is_place cs))

  all_stay : (file : List ℕ) (staged : List Staged) (cs : List Chunk) → AreThere staged
      → filter stays (all_chunks file staged cs) ≡ left_over file cs
  all_stay file staged cs there =
      let places = flat_map (pieces_at file) (filter is_place cs) in
      let received = flat_map (received_pieces file) staged in
      filter-append stays (filter is_piece cs) (places ++ received)
      ∙ ap (λ l. filter stays (filter is_piece cs) ++ l)
      (filter-append stays places received
      ∙ ap₂ ◌++◌
      (filter-flat_map stays stays (pieces_at file) (place_stays file) (filter is_place cs))
      (staged_go file staged there)
      ∙ append-nil (flat_map (pieces_at file) (filter stays (filter is_place cs))))

  left_again : (file : List ℕ) (cs : List Chunk) → left_over file (filter stays cs) ≡ left_over file cs
  left_again file cs =
      ap₂ ◌++◌ (filter_twice stays is_piece cs) (ap (flat_map (pieces_at file)) (filter_twice stays is_place cs))

  left_same : (file left : List ℕ) (cs : List Chunk) → AgreeAt left file (filter is_place cs)
      → left_over left cs ≡ left_over file cs
  left_same file left cs kept =
      ap (λ l. filter stays (filter is_piece cs) ++ l)
      (flat_map_each (pieces_at left) (pieces_at file) (filter stays (filter is_place cs))
      (all-filter (λ c. pieces_at left c ≡ pieces_at file c) stays (filter is_place cs) kept))

-- the tables that are shown with these chunks arranged
abbrev with_arranged : Tables → List Chunk → Tables
with_arranged t cs = record t { meta = shown_meta t.meta; chunks = arranged cs }

settled_view : (file : List ℕ) (staged : List Staged) (t : Tables) → AreThere t.uploads staged
    → settled (view file staged t) ≡ with_arranged t (left_over t.uploads file t.chunks)
unfolding view
settled_view file staged t there =
    ap (λ (cs : List Chunk). record t { meta = shown_meta t.meta; chunks = cs })
    (sym (arranged-filter (stays t.uploads) refl (all_chunks file staged t.chunks)))
    ∙ ap (with_arranged t) (all_stay t.uploads file staged t.chunks there)

pub settled-left : (file left : List ℕ) (staged : List Staged) (u u' : Tables) → Remains u u'
    → AllByRecursion (λ s. is_some (find (is_staged_with (upload_number s.id)) u.uploads) ≡ true) staged
    → AgreeAt left file (filter is_place u.chunks) → settled (view left [] u') ≡ settled (view file staged u)
settled-left file left staged u u' (inl same) there kept =
    ap (λ (t : Tables). settled (view left [] t)) same
    ∙ settled_view left [] u tt
    ∙ ap (with_arranged u) (left_same u.uploads file left u.chunks kept)
    ∙ sym (settled_view file staged u there)
settled-left file left staged u u' (inr same) there kept =
    ap (λ (t : Tables). settled (view left [] t)) same
    ∙ settled_view left [] (settled u) tt
    ∙ ap (with_arranged u) (left_again u.uploads left u.chunks ∙ left_same u.uploads file left u.chunks kept)
    ∙ sym (settled_view file staged u there)

-- tables that have no chunks of staged uploads show none
pub settled_viewed : (file : List ℕ) (t : Tables) → settled t ≡ t → settled (view file [] t) ≡ view file [] t
unfolding view
settled_viewed file t none = settled_view file [] t tt ∙ ap (with_arranged t) all_left
  where
    kept : (p : Chunk → Bool) → filter (stays t.uploads) (filter p t.chunks) ≡ filter p t.chunks
    kept p = filter_swap (stays t.uploads) p t.chunks ∙ ap (λ (u : Tables). filter p u.chunks) none

    all_left : left_over t.uploads file t.chunks ≡ all_chunks file [] t.chunks
    all_left =
        ap₂ ◌++◌ (kept is_piece)
        (ap (flat_map (pieces_at file)) (kept is_place) ∙ sym (append-nil (flat_map (pieces_at file) (filter is_place t.chunks))))
