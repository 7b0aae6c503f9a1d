-- Where the content of an upload is, by the row of the database that says so and by what is being received.
use Rattle.placed.proofs.Prelude.{moves_none, subst, ◌≡◌, ◌≢◌, inl, inr, ℕ, ℤ, ◌<◌, suc, List, length, take, drop, All, HoldsAt, slice_index_or, Option, Some, None, option_map, Ok, refl, sym, ap, ◌∙◌, none-some, same_Some, all_weaker, Region, Chunk, Tables, upload_number, UploadId, content_bytes, IsContentOf, Reads, ChunkContent, Ghosts, Staged, region_in, AreOfOthers, IsRegionOf, place_in}
use Rattle.std.proofs.lemmas.List.Elements.{recursion_from_All}
use Rattle.store.proofs.Moved.{nothing_none}
use Rattle.placed.specs.Freed.{FindsRegion, IsHeldRegion, IsHeldBy, IsReceivedIn}
use Rattle.placed.specs.Seeking.{written_region}
use Rattle.std.proofs.lemmas.List.{get_or_default}
use Rattle.placed.proofs.Lists.{list_at}

-- the chunk that was found, if its bytes were read
pub found_some : (bytes : List ℕ) (o : Option Chunk) → Some bytes ≡ option_map (λ (k : Chunk). k.bytes) o
    → (k : Chunk) × (o ≡ Some k) × (k.bytes ≡ bytes)
found_some bytes None is = absurd (none-some bytes (sym is))
found_some bytes (Some k) is = (k, refl, sym (same_Some bytes k.bytes is))

-- no chunk was found, if none was read
pub found_none : (o : Option Chunk) → None ≡ option_map (λ (k : Chunk). k.bytes) o → o ≡ None
found_none None is = refl
found_none (Some k) is = absurd (none-some k.bytes is)

-- two ids with one number are one
other_number : (a b : UploadId) → a ≢ b → upload_number a ≢ upload_number b
other_number a b apart same = apart (ap (λ (n : ℤ). record { number = n }) same)

-- no content is of the upload, if none has its id
pub others_all : (id : UploadId) (staged : List Staged) → All (λ (s : Staged). s.id ≢ id) staged
    → AreOfOthers (upload_number id) staged
others_all id staged all =
    all_weaker (λ (s : Staged). s.id ≢ id) (λ (s : Staged). upload_number s.id ≢ upload_number id)
    (λ s. other_number s.id id) staged (recursion_from_All (λ (s : Staged). s.id ≢ id) staged all)

module _ (id : UploadId) (staged : List Staged) (t : Tables) where
  -- a row of the database says where it is
  pub located_at : (read : Option ChunkContent) (place : ChunkContent) (region : Region)
      → IsContentOf read (place_in (upload_number id) t) → read ≡ Some place
      → region_in (content_bytes place) ≡ Some region → All (λ (s : Staged). s.id ≢ id) staged
      → IsRegionOf (upload_number id) staged t (Some region)
  located_at read place region says is means others =
      let it = found_some (content_bytes place) (place_in (upload_number id) t) (ap (option_map content_bytes) (sym is) ∙ says) in
      inl (record { place = it.0; there = it.1; means = ap region_in it.2 ∙ means; others = others_all id staged others })

  -- it is being received
  pub located_staged : (read : Option ChunkContent) (index : ℕ) (s : Staged) (region : Region)
      → IsContentOf read (place_in (upload_number id) t) → read ≡ None → index < length staged
      → HoldsAt (λ (x : Staged). x.id ≡ id) staged index → s ≡ slice_index_or staged index s → region ≡ written_region s
      → IsRegionOf (upload_number id) staged t (Some region)
  located_staged read index s region says none less own at is =
      inr (record {
        none = found_none (place_in (upload_number id) t) (ap (option_map content_bytes) (sym none) ∙ says);
        before = take index staged;
        content = s;
        after = drop (suc index) staged;
        is = list_at staged index s less (sym at);
        of_upload = ap (λ (x : Staged). upload_number x.id) at ∙ ap upload_number (own s);
        region_is = is;
      })

  -- it is not in the file
  pub located_none : (read : Option ChunkContent) → IsContentOf read (place_in (upload_number id) t) → read ≡ None
      → All (λ (s : Staged). s.id ≢ id) staged → IsRegionOf (upload_number id) staged t None
  located_none read says none others =
      (found_none (place_in (upload_number id) t) (ap (option_map content_bytes) (sym none) ∙ says), others_all id staged others)

-- what a read says of one value it says of another, if what it says follows
pub reads_as : {S X Y : Type 0} (g : Ghosts S) (old new : S) (x : X) (y : Y) (P : Tables → X → Type 0)
    (Q : Tables → Y → Type 0) → ((t : Tables) → P t x → Q t y) → Reads g old new (Ok x) P → Reads g old new (Ok y) Q
reads_as g old new x y P Q says e = record {
  answers = λ k h. let it = e.answers k h in (it.0, says (g.shown old) it.1);
  same = e.same;
  adds = e.adds;
}

-- ---- the region of an upload that was found

module _ (id : UploadId) (staged : List Staged) where
  -- its content is being received
  received_in : (index : ℕ) (s : Staged) (region : Region) → index < length staged
      → HoldsAt (λ (x : Staged). x.id ≡ id) staged index → s ≡ slice_index_or staged index s → region ≡ s.draft.region
      → IsReceivedIn (upload_number id) staged region
  received_in index s region less own at is = record {
    before = take index staged;
    content = s;
    after = drop (suc index) staged;
    is = list_at staged index s less (sym at);
    of_upload = ap (λ (x : Staged). upload_number x.id) at ∙ ap upload_number (own s);
    region_is = is;
  }

  -- a row says where it is, if its bytes mean a region
  held_at : (t : Tables) (place : ChunkContent) (k : Chunk) → place_in (upload_number id) t ≡ Some k
      → k.bytes ≡ content_bytes place → AreOfOthers (upload_number id) staged → (found : Option Region)
      → found ≡ region_in (content_bytes place) → IsHeldRegion (upload_number id) staged t found
  held_at t place k there bytes others None is = record {
    others = others;
    nowhere = λ c same. ap (λ (x : Chunk). region_in x.bytes) (same_Some c k (sym same ∙ there)) ∙ ap region_in bytes ∙ sym is;
  }
  held_at t place k there bytes others (Some region) is =
      inr (record { place = k; there = there; means = ap region_in bytes ∙ sym is; others = others })

  module _ {T : Type 0} (g : Ghosts T) (old : T) (upload : Option UploadId) (found_id : upload ≡ Some id) where
    -- what is held of the upload is held of the one that was found
    of_found : (t : Tables) (found : Option Region) → IsHeldRegion (upload_number id) staged t found
        → IsHeldBy (option_map upload_number upload) staged t found
    of_found t found =
        subst (λ (o : Option ℤ). IsHeldBy o staged t found) (sym (ap (option_map upload_number) found_id))

    pub finds_received : (index : ℕ) (s : Staged) (region : Region) → index < length staged
        → HoldsAt (λ (x : Staged). x.id ≡ id) staged index → region ≡ (slice_index_or staged index s).draft.region
        → FindsRegion g old old staged (option_map upload_number upload) (Ok (Some region))
    finds_received index s region less own is = record {
      answers = λ k h o. let e = slice_index_or staged index s in
          of_found (g.shown old) (Some region) (inl (received_in index e region less own (get_or_default staged index s e less) is));
      same = moves_none g old;
      adds = nothing_none g old;
    }

    module _ (new : T) (read : Option ChunkContent)
        (asked : Reads g old new (Ok read) (λ t c. IsContentOf c (place_in (upload_number id) t)))
        (others : All (λ (s : Staged). s.id ≢ id) staged) where
      pub finds_place : (place : ChunkContent) → read ≡ Some place → (found : Option Region)
          → found ≡ region_in (content_bytes place)
          → FindsRegion g old new staged (option_map upload_number upload) (Ok found)
      finds_place place some found is = record {
        answers = λ k h o.
            let it = found_some (content_bytes place) (place_in (upload_number id) (g.shown old))
            (ap (option_map content_bytes) (sym some) ∙ (asked.answers k h).1) in
            of_found (g.shown old) found
            (held_at (g.shown old) place it.0 it.1 it.2 (others_all id staged others) found is);
        same = asked.same;
        adds = asked.adds;
      }

      pub finds_nothing : read ≡ None → FindsRegion g old new staged (option_map upload_number upload) (Ok None)
      finds_nothing none = record {
        answers = λ k h o. of_found (g.shown old) None (record {
          others = others_all id staged others;
          nowhere = λ c there. absurd
              (none-some c (sym (found_none (place_in (upload_number id) (g.shown old))
              (ap (option_map content_bytes) (sym none) ∙ (asked.answers k h).1)) ∙ there));
        });
        same = asked.same;
        adds = asked.adds;
      }
