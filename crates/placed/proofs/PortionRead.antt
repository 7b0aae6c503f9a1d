-- The bytes that were read of the region of an upload's content are a part of what its chunks are together.
use Rattle.placed.proofs.Prelude.{◌≡◌, inl, inr, ℕ, zero, suc, ◌+◌, ◌<◌, ◌≤◌, min, IsTrue, ℤ, pos, Bool, true, false, cond, Ok, Vec, cases_lt, take_all, take-append-le, length-take-le, is_piece, place_number, UploadId, IsHonest, IsOpen, shown, Reads, moves_none, Placed, IsSameFile, IsPlaced, HasPlaces, AreHonest, beside, staged_of, List, [], ◌∷◌, ◌++◌, length, take, drop, map, filter, slice_get, Option, Some, None, refl, sym, ap, ap₂, subst, ◌∙◌, arith, is_gt, true≢false, take-append-drop, length-drop, AllByRecursion, all_weaker, flat_map, int_eq, ints, and_parts, same_Some, same_int, IsAscending, Region, Regions, HasContent, Chunk, Tables, asked_chunk, is_chunk, is_of, is_place, upload_number, insert_sorted, placeless, chunk_cmp, arranged, Staged, cut_into, pieces, piece_size, region_in, pieces_in, pieces_at, received_pieces, content_in, all_chunks, view, IsRegionOf, OfOthers, IsPlace, IsReceived, AreReceived, IsServed, written_in}
use Rattle.std.specs.List.{concat}
use Rattle.std.specs.Prelude.{IfSome}
use Rattle.std.proofs.Common.{◌-◌}
use Rattle.std.proofs.lemmas.List.{drop_all, drop-append-le, length-take}
use Rattle.store.specs.declared.state.State as store
use Rattle.store.proofs.Moved.{nothing_none}
use Rattle.placed.proofs.ChunkRead.{reads_last}
use Rattle.sqlite_keyed.proofs.ListLemmas.{all_both}
use Rattle.sqlite_disk.specs.declared.Disk.{Ghosts}
use Rattle.store.specs.Content.{IsPortion, chunks_with}
use Rattle.placed.specs.Seeking.{IsAtPlace, IsBeingReceived}
use Rattle.placed.proofs.Bytes.{content_is, written_is}
use Rattle.placed.proofs.Lists.{found_among, all_middle}
use Rattle.placed.proofs.Owned.{AreOf, pieces_owned}

-- ---- what holds of each element

-- of those that a filter keeps
of_kept : {A : Type 0} (P : A → Type 0) (p : A → Bool) (xs : List A) → AllByRecursion P (filter p xs)
    → AllByRecursion (λ x. p x ≡ true → P x) xs
of_kept P p [] all = tt
of_kept {A} P p (x ∷ xs) all = at (p x) refl all (of_kept P p xs)
  where
    at : (b : Bool) → p x ≡ b → AllByRecursion P (cond b (x ∷ filter p xs) (filter p xs))
        → (AllByRecursion P (filter p xs) → AllByRecursion (λ y. p y ≡ true → P y) xs)
        → AllByRecursion (λ y. p y ≡ true → P y) (x ∷ xs)
    at true is all rest = ((λ _. all.0), rest all.1)
    at false is all rest = ((λ passes. absurd (true≢false (sym passes ∙ is))), rest all)

-- of those in order
of_inserted : (P : Chunk → Type 0) (new : Chunk) (cs : List Chunk) → AllByRecursion P (insert_sorted chunk_cmp new cs)
    → P new × AllByRecursion P cs
of_inserted P new [] all = (all.0, tt)
of_inserted P new (c ∷ cs) all = at (is_gt (chunk_cmp new c)) all (of_inserted P new cs)
  where
    at : (b : Bool) → AllByRecursion P (cond b (c ∷ insert_sorted chunk_cmp new cs) (new ∷ c ∷ cs))
        → (AllByRecursion P (insert_sorted chunk_cmp new cs) → P new × AllByRecursion P cs)
        → P new × AllByRecursion P (c ∷ cs)
    at true all more = let rest = more all.1 in (rest.0, (all.0, rest.1))
    at false all more = (all.0, all.1)

of_arranged : (P : Chunk → Type 0) (cs : List Chunk) → AllByRecursion P (arranged cs)
    → AllByRecursion (λ c. P (placeless c)) cs
of_arranged P [] all = tt
of_arranged P (c ∷ cs) all =
    let rest = of_inserted P (placeless c) (arranged cs) all in (rest.0, of_arranged P cs rest.1)

-- of two lists
of_both : {A : Type 0} (P : A → Type 0) (xs ys : List A) → AllByRecursion P (xs ++ ys)
    → AllByRecursion P xs × AllByRecursion P ys
of_both P [] ys all = (tt, all)
of_both P (x ∷ xs) ys all = let rest = of_both P xs ys all.1 in ((all.0, rest.0), rest.1)

-- of many
of_many : {A B : Type 0} (P : B → Type 0) (f : A → List B) (xs : List A) → AllByRecursion P (flat_map f xs)
    → AllByRecursion (λ x. AllByRecursion P (f x)) xs
of_many P f [] all = tt
of_many P f (x ∷ xs) all = let rest = of_both P (f x) (flat_map f xs) all in (rest.0, of_many P f xs rest.1)

-- ---- chunks by their numbers

-- the chunk has the bytes of its number, counted from k
abbrev HasOwn : List (List ℕ) → ℕ → Chunk → Type 0
HasOwn each k c = (n : ℕ) × (c.n ≡ pos (k + n)) × (slice_get each n ≡ Some c.bytes)

same_pos : (a b : ℕ) → pos a ≡ pos b → a ≡ b
same_pos a b e = cc

all_have : (id : ℤ) (k : ℕ) (each : List (List ℕ)) → AllByRecursion (HasOwn each k) (chunks_with id k each)
all_have id k [] = tt
all_have id k (bytes ∷ each) = (
  (0, ap pos (let e : k ≡ k + 0 = omega arith in e), refl),
  all_weaker (HasOwn each (suc k)) (HasOwn (bytes ∷ each) k)
      (λ c it. (suc it.0, it.1 ∙ ap pos (let e : suc k + it.0 ≡ k + suc it.0 = omega arith in e), it.2))
      (chunks_with id (suc k) each) (all_have id (suc k) each),
)

-- the pieces of a content are numbered from k on
numbers : (most s : ℕ) (id : ℤ) (k : ℕ) (bytes : List ℕ)
    → AllByRecursion (λ (c : Chunk). (j : ℕ) × (c.n ≡ pos (k + j))) (cut_into most s id k bytes)
numbers zero s id k bytes = tt
numbers (suc most) s id k [] = tt
numbers (suc most) s id k (byte ∷ bytes) = (
  (0, ap pos (let e : k ≡ k + 0 = omega arith in e)),
  all_weaker _ (λ (c : Chunk). (j : ℕ) × (c.n ≡ pos (k + j)))
      (λ c it. (suc it.0, it.1 ∙ ap pos (let e : suc k + it.0 ≡ k + suc it.0 = omega arith in e)))
      (cut_into most s id (suc k) (drop s (byte ∷ bytes))) (numbers most s id (suc k) (drop s (byte ∷ bytes))),
)

-- chunks that have the pieces of a content begin with the content
begin_with : (most s : ℕ) (some : 0 < s) (id : ℤ) (k : ℕ) (bytes : List ℕ) (each : List (List ℕ)) → length bytes ≤ most
    → AllByRecursion (HasOwn each k) (cut_into most s id k bytes) → (more : List ℕ) × (concat each ≡ bytes ++ more)
begin_with most s some id k [] each enough have = (concat each, refl)
begin_with zero s some id k (byte ∷ bytes) each enough have = absurd (omega arith)
begin_with (suc most) s some id k (byte ∷ bytes) [] enough have =
    absurd (let e : None ≡ Some (take s (byte ∷ bytes)) = have.0.2 in cc)
begin_with (suc most) s some id k (byte ∷ bytes) (first ∷ each) enough have =
    let none : have.0.0 ≡ 0 = (let e = same_pos k (k + have.0.0) have.0.1 in omega (arith, e)) in
    let is : first ≡ take s (byte ∷ bytes) =
    same_Some first (take s (byte ∷ bytes)) (subst (λ n. slice_get (first ∷ each) n ≡ Some (take s (byte ∷ bytes))) none have.0.2) in
    let left = length-drop s (byte ∷ bytes) in
    let rest = begin_with most s some id (suc k) (drop s (byte ∷ bytes)) each (omega (arith, left))
    (all_both (HasOwn (first ∷ each) k) (λ (c : Chunk). (j : ℕ) × (c.n ≡ pos (suc k + j))) (HasOwn each (suc k))
    (λ c it next. after c it.0 it.1 it.2 next.0 next.1) (cut_into most s id (suc k) (drop s (byte ∷ bytes))) have.1
    (numbers most s id (suc k) (drop s (byte ∷ bytes)))) in (
      rest.0,
      ap₂ ◌++◌ is rest.1 ∙ joined (take s (byte ∷ bytes)) (drop s (byte ∷ bytes)) rest.0
          ∙ ap (λ l. l ++ rest.0) (take-append-drop s (byte ∷ bytes)),
    )
  where
    joined : (xs ys zs : List ℕ) → xs ++ (ys ++ zs) ≡ (xs ++ ys) ++ zs
    joined [] ys zs = refl
    joined (x ∷ xs) ys zs = ap (λ l. x ∷ l) (joined xs ys zs)

    after : (c : Chunk) (n : ℕ) → c.n ≡ pos (k + n) → slice_get (first ∷ each) n ≡ Some c.bytes → (j : ℕ)
        → c.n ≡ pos (suc k + j) → HasOwn each (suc k) c
    after c zero at has j later = absurd (let e = same_pos (k + 0) (suc k + j) (sym at ∙ later) in omega (arith, e))
    after c (suc n) at has j later = (n, at ∙ ap pos (let e : k + suc n ≡ suc k + n = omega arith in e), has)

-- ---- in a view

-- what holds of the chunks of an upload holds of the pieces among them
module _ (id : ℤ) (each : List (List ℕ)) (file : List ℕ) (staged : List Staged) (t : Tables)
    (are : filter (is_of id) (view file staged t).chunks ≡ chunks_with id 0 each) where
  abbrev Has : Chunk → Type 0
  Has c = is_of id (placeless c) ≡ true → HasOwn each 0 (placeless c)

  all_shown : AllByRecursion Has (all_chunks file staged t.chunks)
  unfolding view
  all_shown =
      of_arranged (λ c. is_of id c ≡ true → HasOwn each 0 c) (all_chunks file staged t.chunks)
      (of_kept (HasOwn each 0) (is_of id) (arranged (all_chunks file staged t.chunks))
      (subst (AllByRecursion (HasOwn each 0)) (sym are) (all_have id 0 each)))

  itself : (a : ℤ) → int_eq a a ≡ true
  itself a = grind (arith, ints)

  own_pieces : (content : List ℕ) → AllByRecursion Has (pieces id content)
      → (more : List ℕ) × (concat each ≡ content ++ more)
  unfolding pieces
  own_pieces content has =
      begin_with (length content) piece_size (omega arith) id 0 content each (omega arith)
      (all_both Has (λ (c : Chunk). c.upload ≡ id) (HasOwn each 0)
      (λ c it own. it (ap (λ u. int_eq u id) own ∙ itself id)) (pieces id content) has (pieces_owned id content))

-- ---- a part of the content

rest_taken : (d : List ℕ) (len most : ℕ) → len ≡ min (length d) most → take len d ≡ take most d
rest_taken d len most is = elim (cases_lt most (length d)) [
  | inl more ↦ let same : len ≡ most = omega (arith, is, more) in ap (λ k. take k d) same
  | inr all ↦ take_all len d (omega (arith, is, all)) ∙ sym (take_all most d all)
]

-- what was read into a buffer of as many bytes as there are
pub portion_read : (content buf rest : List ℕ) (len full at most : ℕ) → at < length content
    → len ≡ min (length content - at) most → full ≡ len → buf ≡ take full (drop at content)
    → take len (buf ++ rest) ≡ take most (drop at content)
portion_read content buf rest len full at most less is whole read =
    let d = length-drop at content in
    let short : len ≤ length (drop at content) = omega (arith, is, d) in
    let all : buf ≡ take len (drop at content) = read ∙ ap (λ k. take k (drop at content)) whole in
    let size : length buf ≡ len = ap length all ∙ length-take-le len (drop at content) short in
    let front : take len (buf ++ rest) ≡ buf = take-append-le len buf rest (omega (arith, size)) ∙ take_all len buf (omega (arith, size)) in
    front ∙ all ∙ rest_taken (drop at content) len most (omega (arith, is, d))

-- nothing is left
pub portion_over : (content : List ℕ) (at most : ℕ) → length content ≤ at → ◌≡◌ {A = List ℕ} [] (take most (drop at content))
portion_over content at most over = sym (ap (take most) (drop_all at content over) ∙ take_all most [] (omega arith))

as_long : (most : ℕ) (d : List ℕ) → take (length (take most d)) d ≡ take most d
as_long most d = elim (cases_lt most (length d)) [
  | inl more ↦ ap (λ k. take k d) (length-take-le most d (omega (arith, more)))
  | inr all ↦ let whole = take_all most d all in ap (λ l. take (length l) d) whole ∙ take_all (length d) d (omega arith) ∙ sym whole
]

-- it is one of whatever the content is a beginning of
longer : (content more bytes : List ℕ) (at most : ℕ) → bytes ≡ take most (drop at content)
    → bytes ≡ take (length bytes) (drop at (content ++ more))
longer content more bytes at most is = elim (cases_lt (length content) at) [
  | inl past ↦
      let none : bytes ≡ [] = is ∙ sym (portion_over content at most (omega (arith, past))) in
      none ∙ sym (ap (λ l. take (length l) (drop at (content ++ more))) none)
  | inr within ↦
      let d = drop at content in
      let fewer : length bytes ≤ length d =
      subst (λ l. length l ≤ length d) (sym is) (omega (arith, length-take most d)) in
      is ∙ sym (as_long most d) ∙ ap (λ l. take (length l) d) (sym is)
      ∙ sym (take-append-le (length bytes) d more fewer)
      ∙ ap (take (length bytes)) (sym (drop-append-le at content more within))
]

module _ {D : Type 0} (d : Ghosts D) (disk : D) (regions : Regions) (staged : List Staged) (t : Tables)
    (received : AreReceived d disk regions staged) (served : IsServed d disk regions staged t) (id : ℤ)
    (region : Region) (at most : ℕ) (bytes : List ℕ)
    (read : (content : List ℕ) → HasContent (d.seen disk) region content → bytes ≡ take most (drop at content)) where
  abbrev file : List ℕ
  file = d.seen disk

  module _ (each : List (List ℕ)) (are : filter (is_of id) (view file staged t).chunks ≡ chunks_with id 0 each) where
    abbrev IsOwn : Chunk → Type 0
    IsOwn = Has id each file staged t are

    -- at the places, and of the contents that are being received
    in_file : AllByRecursion (λ c. AllByRecursion IsOwn (pieces_at file c)) (filter is_place t.chunks)
        × AllByRecursion (λ s. AllByRecursion IsOwn (received_pieces file s)) staged
    in_file =
        let all = of_both IsOwn (filter is_piece t.chunks) (flat_map (pieces_at file) (filter is_place t.chunks) ++ flat_map (received_pieces file) staged)
        (all_shown id each file staged t are) in
        let both = of_both IsOwn (flat_map (pieces_at file) (filter is_place t.chunks)) (flat_map (received_pieces file) staged) all.1 in (
          of_many IsOwn (pieces_at file) (filter is_place t.chunks) both.0,
          of_many IsOwn (received_pieces file) staged both.1,
        )

    given : (content : List ℕ) → HasContent file region content → AllByRecursion IsOwn (pieces id content)
        → bytes ≡ take (length bytes) (drop at (concat each))
    given content has own =
        let it = own_pieces id each file staged t are content own in
        longer content it.0 bytes at most (read content has) ∙ ap (λ l. take (length bytes) (drop at l)) (sym it.1)

    at_place : IsAtPlace id staged t region → bytes ≡ take (length bytes) (drop at (concat each))
    at_place here =
        let it = found_among (IsPlace d disk regions staged) (is_chunk id (pos place_number)) is_place
        (λ c is. (and_parts (int_eq c.upload id) (is_place c) is).1) t.chunks here.place here.there served.places in
        let own = found_among (λ c. AllByRecursion IsOwn (pieces_at file c)) (is_chunk id (pos place_number)) is_place
        (λ c is. (and_parts (int_eq c.upload id) (is_place c) is).1) t.chunks here.place here.there in_file.0 in
        let same : it.0.region ≡ region = same_Some it.0.region region (sym it.0.means ∙ here.means) in
        let upload : here.place.upload ≡ id = same_int here.place.upload id (and_parts (int_eq here.place.upload id) (is_place here.place) it.1).0 in
        let content : List ℕ = it.0.kept.content in
        let has : HasContent file region content = subst (λ (r : Region). HasContent file r content) same it.0.kept.seen in
        given content has
        (subst (AllByRecursion IsOwn) (ap (pieces_in file here.place) here.means ∙ ap₂ pieces upload (content_is file region content has)) own.0)

    being : IsBeingReceived id staged t region → bytes ≡ take (length bytes) (drop at (concat each))
    being it =
        let e = it.content in
        let r : IsReceived d disk regions e =
        (all_middle (IsReceived d disk regions) it.before it.after e (subst (AllByRecursion (IsReceived d disk regions)) it.is received.each)).1.0 in
        let own = (all_middle (λ s. AllByRecursion IsOwn (received_pieces file s)) it.before it.after e
        (subst (AllByRecursion (λ s. AllByRecursion IsOwn (received_pieces file s))) it.is in_file.1)).1.0 in
        let has : HasContent file region r.bytes =
        subst (λ (g : Region). HasContent file g r.bytes) (sym it.region_is) (record { size = r.written.size; there = r.written.there }) in
        given r.bytes has
        (subst (AllByRecursion IsOwn) (ap₂ pieces it.of_upload (written_is file e.draft r.bytes r.written)) own)

    portion_in : IsRegionOf id staged t (Some region) → bytes ≡ take (length bytes) (drop at (concat each))
    portion_in (inl here) = at_place here
    portion_in (inr it) = being it

  pub portion_of : IsRegionOf id staged t (Some region) → IsPortion id at bytes (view file staged t)
  portion_of where_is each are = portion_in each are where_is

-- ---- the calls

module _ {T D : Type 0} (g : store.Ghosts T) (d : Ghosts D) (s then : Placed T D) (rest : then ≡ record s { rows = then.rows })
    (upload : UploadId) (found : Option Region) (region : Region) (is : found ≡ Some region)
    (e : Reads g s.rows then.rows (Ok found) (IsRegionOf (upload_number upload) (staged_of s))) (disk : D)
    (same : IsSameFile d then.disk disk) where
  pub portion_found : (bytes : Vec ℕ) (at most : ℕ) → (IsTrue (d.is_clean disk) → (content : List ℕ)
      → HasContent (d.seen then.disk) region content → bytes.items ≡ take most (drop at content))
      → Reads (beside g d) s (record then { disk = disk }) (Ok (Some bytes))
      (λ t found. IfSome found (λ (b : Vec ℕ). IsPortion (upload_number upload) at b.items t))
  portion_found bytes at most says =
      reads_last g d s s.rows then rest (moves_none g s.rows) (nothing_none g s.rows) e.same e.adds disk same (Ok (Some bytes))
      (λ t found. IfSome found (λ (b : Vec ℕ). IsPortion (upload_number upload) at b.items t))
      (λ k h.
      let it = e.answers k.0 h.rows in
      let there : then.disk ≡ s.disk = ap (λ (p : Placed T D). p.disk) rest in
      let clean : IsTrue (d.is_clean s.disk) = subst (λ (p : D). IsTrue (d.is_clean p)) there (same.clean k.1.0) in
      let kept : s.has_lost ≡ false = sym (ap (λ (p : Placed T D). p.has_lost) rest) ∙ k.1.1 in
      let placed : IsPlaced g d s = h.placed (e.same.was_honest k.0, (clean, kept)) in (
        it.0,
        portion_of d s.disk s.regions (staged_of s) (shown g s.rows) placed.received (placed.served it.0) (upload_number upload) region at most
            bytes.items
            (λ content has. says k.1.0 content (subst (λ (p : D). HasContent (d.seen p) region content) (sym there) has))
            (subst (IsRegionOf (upload_number upload) (staged_of s) (shown g s.rows)) is it.1),
      ))
