-- The piece that was read of the region of an upload's content is the chunk that a database shows beside its file.
use Rattle.placed.proofs.Prelude.{◌≡◌, ◌≢◌, inl, inr, ℕ, ℤ, pos, ◌*◌, cond, List, ◌∷◌, ◌++◌, length, take, drop, find, filter, Option, Some, None, refl, sym, ap, ap₂, subst, ◌∙◌, AllByRecursion, int_eq, and_parts, cases_lt, lt-ltb, same_Some, IsAscending, same_int, Region, Regions, HasContent, Chunk, Tables, is_chunk, upload_number, Staged, piece_size, pieces, place_number, is_place, piece_of, IsRegionOf, pieces_in, pieces_at, view, OfOthers, IsPlace, IsReceived, AreReceived, IsServed, AreOfOthers}
use Rattle.std.proofs.lemmas.Bool.{le-ltb}
use Rattle.sqlite_disk.specs.declared.Disk.{Ghosts}
use Rattle.placed.specs.Seeking.{IsAtPlace, IsBeingReceived}
use Rattle.placed.proofs.Bytes.{content_is, written_is}
use Rattle.placed.proofs.Cutting.{piece_found, piece_lacks}
use Rattle.placed.proofs.Seeking.{place-found, place-ends, staged-found, bytes_found}
use Rattle.placed.proofs.Lists.{found_among, all_middle, ascending_middle}
use Rattle.placed.proofs.Tracked.{others_turned}

-- ---- pieces

-- the chunk of a content with a number has the bytes of its piece
pub piece_is : (id : ℤ) (n : ℕ) (content : List ℕ)
    → bytes_found (find (is_chunk id (pos n)) (pieces id content)) ≡ piece_of n content
piece_is id n content =
    let piece : Option (List ℕ) = Some (take piece_size (drop (n * piece_size) content)) in
    elim (cases_lt (n * piece_size) (length content)) [
      | inl there ↦
          ap bytes_found (piece_found id n content there)
          ∙ sym (ap (λ b. cond b piece None) (lt-ltb (n * piece_size) (length content) there))
      | inr past ↦
          ap bytes_found (piece_lacks id n content past)
          ∙ sym (ap (λ b. cond b piece None) (le-ltb (n * piece_size) (length content) past))
    ]

-- ---- in a view

-- a chunk of an upload whose content is at a place is found there, or nowhere
place_decides : (file : List ℕ) (staged : List Staged) (id n : ℤ) (t : Tables) (p : Chunk) → n ≢ pos place_number
    → IsAscending (λ (a b : Chunk). a.upload ≢ b.upload) (filter is_place t.chunks)
    → find (is_chunk id n) t.chunks ≡ None → find (is_chunk id (pos place_number)) t.chunks ≡ Some p
    → AreOfOthers id staged → bytes_found (find (is_chunk id n) (view file staged t).chunks)
    ≡ bytes_found (find (is_chunk id n) (pieces_at file p))
place_decides file staged id n t p other apart none there others = at (find (is_chunk id n) (pieces_at file p)) refl
  where
    at : (o : Option Chunk) → find (is_chunk id n) (pieces_at file p) ≡ o
        → bytes_found (find (is_chunk id n) (view file staged t).chunks) ≡ bytes_found o
    at None e = place-ends file staged id n t p other apart none there e others
    at (Some k) e = place-found file staged id n t p k other apart none there e

pub other_pos : (n : ℕ) → n ≢ place_number → pos n ≢ pos place_number
other_pos n other same = other (same_pos same)
  where
    same_pos : pos n ≡ pos place_number → n ≡ place_number
    same_pos e = cc

module _ {D : Type 0} (d : Ghosts D) (disk : D) (regions : Regions) (staged : List Staged) (t : Tables)
    (received : AreReceived d disk regions staged) (served : IsServed d disk regions staged t) (id : ℤ) (n : ℕ)
    (other : n ≢ place_number) (none : find (is_chunk id (pos n)) t.chunks ≡ None) (region : Region) where
  abbrev shown_bytes : Option (List ℕ)
  shown_bytes = bytes_found (find (is_chunk id (pos n)) (view (d.seen disk) staged t).chunks)

  -- the content is at a place
  fetched_at : IsAtPlace id staged t region
      → (content : List ℕ) × HasContent (d.seen disk) region content × (shown_bytes ≡ piece_of n content)
  fetched_at at =
      let file = d.seen disk in
      let it = found_among (IsPlace d disk regions staged) (is_chunk id (pos place_number)) is_place
      (λ c is. (and_parts (int_eq c.upload id) (is_place c) is).1) t.chunks at.place at.there served.places in
      let same : it.0.region ≡ region = same_Some it.0.region region (sym it.0.means ∙ at.means) in
      let own : at.place.upload ≡ id = same_int at.place.upload id (and_parts (int_eq at.place.upload id) (is_place at.place) it.1).0 in
      let content : List ℕ = it.0.kept.content in
      let has : HasContent file region content = subst (λ (r : Region). HasContent file r content) same it.0.kept.seen in (
        content,
        has,
        place_decides file staged id (pos n) t at.place (other_pos n other) served.single none at.there at.others
            ∙ ap (λ cs. bytes_found (find (is_chunk id (pos n)) cs))
            (ap (pieces_in file at.place) at.means ∙ ap₂ pieces own (content_is file region content has))
            ∙ piece_is id n content,
      )

  -- the content is being received
  fetched_staged : IsBeingReceived id staged t region
      → (content : List ℕ) × HasContent (d.seen disk) region content × (shown_bytes ≡ piece_of n content)
  fetched_staged it =
      let file = d.seen disk in
      let e = it.content in
      let each : AllByRecursion (IsReceived d disk regions) (it.before ++ e ∷ it.after) =
      subst (AllByRecursion (IsReceived d disk regions)) it.is received.each in
      let r : IsReceived d disk regions e = (all_middle (IsReceived d disk regions) it.before it.after e each).1.0 in
      let around = ascending_middle OfOthers it.before it.after e (subst (IsAscending OfOthers) it.is received.once) in
      let of : (ss : List Staged) → AreOfOthers (upload_number e.id) ss → AreOfOthers id ss =
      λ ss. subst (λ (u : ℤ). AreOfOthers u ss) it.of_upload in
      let has : HasContent file region r.bytes =
      subst (λ (g : Region). HasContent file g r.bytes) (sym it.region_is) (record { size = r.written.size; there = r.written.there }) in (
        r.bytes,
        has,
        staged-found file staged id (pos n) t it.before it.after e (other_pos n other) none it.none it.is it.of_upload
            (of it.before around.0) (of it.after (others_turned e it.after around.1))
            ∙ ap (λ cs. bytes_found (find (is_chunk id (pos n)) cs)) (ap₂ pieces it.of_upload (written_is file e.draft r.bytes r.written))
            ∙ piece_is id n r.bytes,
      )

  -- a piece that is one of whatever content the file has in the region is the one that is shown
  pub fetched : IsRegionOf id staged t (Some region) → (piece : Option (List ℕ))
      → ((content : List ℕ) → HasContent (d.seen disk) region content → piece ≡ piece_of n content)
      → piece ≡ shown_bytes
  fetched (inl at) piece read = let it = fetched_at at in read it.0 it.1 ∙ sym it.2
  fetched (inr being) piece read = let it = fetched_staged being in read it.0 it.1 ∙ sym it.2
