-- The bytes of a file in a region and of a draft are those that it has there, and the bytes of a place mean its region.
use Rattle.placed.proofs.Prelude.{◌≡◌, ℕ, ◌+◌, ◌<◌, ◌≤◌, ◌^◌, arith, refl, sym, ap, ◌∙◌, List, [], ◌∷◌, ◌++◌, length, take, drop, Some, get_or-take, length-take-le, length-drop, length-append, take-take, Region, Draft, HasAt, HasContent, HasWritten, place_of, region_in, content_in, written_in}
use Rattle.std.proofs.Common.{slice_index}
use Rattle.std.specs.Int.{w64, to_be_bytes, from_be_bytes}
use Rattle.std.proofs.lemmas.Nat.{from_be_bytes-to_be_bytes_8}
use Rattle.std.proofs.lemmas.List.{ext_get_or, get_or-drop, take_at, drop_at}

-- ---- a part of a file

long : (file : List ℕ) (at n : ℕ) → at + n ≤ length file → length (take n (drop at file)) ≡ n
long file at n within = length-take-le n (drop at file) (omega (arith, length-drop at file))

read : (file : List ℕ) (at n i : ℕ) → i < n → slice_index (take n (drop at file)) i ≡ slice_index file (at + i)
read file at n i less = get_or-take n (drop at file) i 0 less ∙ get_or-drop at file i 0

part_is : (file : List ℕ) (at n : ℕ) (bytes : List ℕ) → length bytes ≡ n → HasAt file at bytes
    → take n (drop at file) ≡ bytes
part_is file at n [] size there = rw (← size) refl
part_is file at n (byte ∷ bytes) size there =
    let holds = there (omega arith) in
    let same : length (take n (drop at file)) ≡ n = long file at n (omega (arith, holds.within)) in
    ext_get_or 0 (take n (drop at file)) (byte ∷ bytes) (same ∙ sym size) (λ i less.
    read file at n i (omega (arith, same)) ∙ holds.each i (omega (arith, same)))

-- ---- contents and drafts

-- the content that the file has in a region
pub content_is : (file : List ℕ) (region : Region) (content : List ℕ) → HasContent file region content
    → content_in file region ≡ content
content_is file region content has = part_is file region.start region.size content has.size has.there

-- a region that ends within the file has a content
pub has_content : (file : List ℕ) (region : Region) → region.start + region.size ≤ length file
    → HasContent file region (content_in file region)
has_content file region within =
    let same : length (content_in file region) ≡ region.size = long file region.start region.size within in
    record {
      size = same;
      there = λ some. record {
        within = omega (arith, same);
        each = λ i less. sym (read file region.start region.size i (omega (arith, same)));
      };
    }

-- the bytes that are written of a draft
pub written_is : (file : List ℕ) (draft : Draft) (bytes : List ℕ) → HasWritten file draft bytes
    → written_in file draft ≡ bytes
written_is file draft bytes has = part_is file draft.region.start draft.written bytes has.size has.there

-- of a draft in the same region, of which less is written, these are the first bytes
pub written_part : (file : List ℕ) (draft shorter : Draft) → shorter.region ≡ draft.region
    → shorter.written ≤ draft.written → written_in file shorter ≡ take shorter.written (written_in file draft)
written_part file draft shorter same fewer =
    ap (λ (region : Region). take shorter.written (drop region.start file)) same
    ∙ sym (take-take shorter.written draft.written (drop draft.region.start file) fewer)

-- ---- places

region_of_two : (first second : List ℕ) → length first ≡ 8 → length second ≡ 8
    → region_in (first ++ second) ≡ Some (record { start = from_be_bytes w64 first; size = from_be_bytes w64 second })
region_of_two first second eight too =
    let both : length (first ++ second) ≡ 16 = omega (arith, length-append first second) in
    rw both (rw (take_at first second 8 eight) (rw (drop_at first second 8 eight) refl))

-- the bytes of a place mean its region
pub place_means : (region : Region) → region.start < 2 ^ 64 → region.size < 2 ^ 64
    → region_in (place_of region) ≡ Some region
place_means region start size =
    region_of_two (to_be_bytes w64 region.start) (to_be_bytes w64 region.size) refl refl
    ∙ ap (λ n. Some (record { start = n; size = from_be_bytes w64 (to_be_bytes w64 region.size) })) (from_be_bytes-to_be_bytes_8 region.start start)
    ∙ ap (λ n. Some (record { start = region.start; size = n })) (from_be_bytes-to_be_bytes_8 region.size size)
