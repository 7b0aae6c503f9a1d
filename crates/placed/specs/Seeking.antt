-- Where the content of an upload is in the file.
use Rattle.std.specs.Prelude.{◌≡◌, ◌≢◌, ◌⊎◌, ℕ, ℤ, pos, min, List, ◌∷◌, ◌++◌, find, Option, Some, None}
use Rattle.std.specs.List.{AllByRecursion}
use Rattle.contents.specs.declared.region.Region.{Region}
use Rattle.tables.specs.Rows.{Chunk, Tables}
use Rattle.tables.specs.Statements.{is_chunk}
use Rattle.tables.specs.Staging.{upload_number}
use Rattle.placed.specs.declared.staged.Staged.{Staged}
use Rattle.placed.specs.Places.{place_number, region_in}

-- the place of the upload in these tables, if it has one
abbrev pub place_in : ℤ → Tables → Option Chunk
place_in id t = find (is_chunk id (pos place_number)) t.chunks

-- none of these is the content of the upload
abbrev pub AreOfOthers : ℤ → List Staged → Type 0
AreOfOthers id = AllByRecursion (λ (s : Staged). upload_number s.id ≢ id)

-- the part of its region that is written
abbrev pub written_region : Staged → Region
written_region s = record { start = s.draft.region.start; size = s.draft.written }

-- the upload has its content at a place
pub record IsAtPlace (id : ℤ) (staged : List Staged) (t : Tables) (region : Region) : Type 0 where
  pub place : Chunk
  pub there : place_in id t ≡ Some place
  pub means : region_in place.bytes ≡ Some region
  pub others : AreOfOthers id staged

-- the content of the upload is being received
pub record IsBeingReceived (id : ℤ) (staged : List Staged) (t : Tables) (region : Region) : Type 0 where
  pub none : place_in id t ≡ None
  pub before : List Staged
  pub content : Staged
  pub after : List Staged
  pub is : staged ≡ before ++ content ∷ after
  pub of_upload : upload_number content.id ≡ id
  pub region_is : region ≡ written_region content

-- the region of the content of an upload, or none if it has no content in the file
abbrev pub IsRegionOf : ℤ → List Staged → Tables → Option Region → Type 0
IsRegionOf id staged t None = (place_in id t ≡ None) × AreOfOthers id staged
IsRegionOf id staged t (Some region) = IsAtPlace id staged t region ⊎ IsBeingReceived id staged t region

-- the content of the upload has only its first bytes
pub record IsShortened (id : ℤ) (len : ℕ) (old new : List Staged) : Type 0 where
  pub before : List Staged
  pub content : Staged
  pub after : List Staged
  pub was : old ≡ before ++ content ∷ after
  pub shorter : Staged
  pub is : new ≡ before ++ shorter ∷ after
  pub of_upload : upload_number content.id ≡ id
  pub same_upload : shorter.id ≡ content.id
  pub same_region : shorter.draft.region ≡ content.draft.region
  pub written : shorter.draft.written ≡ min len content.draft.written
  pub sealed : shorter.is_sealed ≡ content.is_sealed

-- the same, or no content is of the upload, and nothing changed
abbrev pub IsTruncated : ℤ → ℕ → (old new : List Staged) → Type 0
IsTruncated id len old new = (AreOfOthers id old × (new ≡ old)) ⊎ IsShortened id len old new
