-- What holds of a database and its file of contents between two calls.
use Rattle.std.specs.Prelude.{◌≡◌, ◌≢◌, ◌≤◌, ℕ, false, true, List, filter, find, is_some, Some, Contains}
use Rattle.std.specs.List.{AllByRecursion}
use Rattle.sqlite_disk.specs.declared.Disk.{Ghosts}
use Rattle.sqlite_trees.specs.Tree.{IsAscending}
use Rattle.contents.specs.declared.region.Region.{Region}
use Rattle.contents.specs.declared.regions.Regions.{Regions}
use Rattle.contents.specs.Regions.{AreApart}
use Rattle.contents.specs.InUse.{regions_of}
use Rattle.contents.specs.Files.{HasContent}
use Rattle.contents.specs.Drafts.{HasWritten}
use Rattle.tables.specs.Rows.{Chunk, Tables}
use Rattle.tables.specs.Statements.{is_staged_with}
use Rattle.tables.specs.Staging.{upload_number}
use Rattle.placed.specs.declared.staged.Staged.{Staged}
use Rattle.placed.specs.Places.{is_place, region_in}

-- two regions have no byte in common
abbrev pub AreSeparate : Region → Region → Type 0
AreSeparate a b = AreApart a.start a.size b.start b.size

-- the two are of different uploads
abbrev pub OfOthers : Staged → Staged → Type 0
OfOthers a b = upload_number a.id ≢ upload_number b.id

-- the contents of the two have no byte in common
abbrev pub AreStagedApart : Staged → Staged → Type 0
AreStagedApart a b = AreSeparate a.draft.region b.draft.region

-- the upload is staged
abbrev pub IsStagedIn : Tables → Staged → Type 0
IsStagedIn t s = is_some (find (is_staged_with (upload_number s.id)) t.uploads) ≡ true

-- the places of these tables
abbrev pub places_in : Tables → List Chunk
places_in t = filter is_place t.chunks

-- the places of the two rows have no byte in common
abbrev pub ArePlacesApart : Chunk → Chunk → Type 0
ArePlacesApart c e = (r q : Region) → region_in c.bytes ≡ Some r → region_in e.bytes ≡ Some q → AreSeparate r q

-- the place of the row and the content that is being received have no byte in common, also if that is sealed
abbrev pub IsBeside : Staged → Chunk → Type 0
IsBeside s c = (r : Region) → region_in c.bytes ≡ Some r → AreSeparate s.draft.region r

-- each of these contents that are being received is beside each of these places
abbrev pub AreBeside : List Staged → List Chunk → Type 0
AreBeside staged places = AllByRecursion (λ (s : Staged). AllByRecursion (IsBeside s) places) staged

-- no two places are of one upload
abbrev pub HasSinglePlaces : Tables → Type 0
HasSinglePlaces t = IsAscending (λ (a b : Chunk). a.upload ≢ b.upload) (places_in t)

module _ {D : Type 0} (d : Ghosts D) (disk : D) where
  -- the file has a content in this region, and whatever a stop leaves of the file has it there
  pub record IsInFile (region : Region) : Type 0 where
    pub content : List ℕ
    pub seen : HasContent (d.seen disk) region content
    pub left : (left : List ℕ) → d.may_leave disk left → HasContent left region content

  module _ (regions : Regions) where
    -- the row names a region in use, whose content is kept, and which no content that may still be written meets
    pub record IsPlace (staged : List Staged) (c : Chunk) : Type 0 where
      pub region : Region
      pub means : region_in c.bytes ≡ Some region
      pub some : 1 ≤ region.size
      pub kept : IsInFile region
      pub used : Contains (regions_of regions) region
      pub apart : AllByRecursion (λ (s : Staged). s.is_sealed ≡ false → AreSeparate s.draft.region region) staged

    -- a content that is being received has a region in use, and what is written of it is in the file
    pub record IsReceived (s : Staged) : Type 0 where
      pub used : Contains (regions_of regions) s.draft.region
      pub some : 1 ≤ s.draft.region.size
      pub bytes : List ℕ
      pub written : HasWritten (d.seen disk) s.draft bytes
      pub within : s.draft.written ≤ s.draft.region.size

    -- the contents that are being received are each received once, and apart from each other
    pub record AreReceived (staged : List Staged) : Type 0 where
      pub each : AllByRecursion IsReceived staged
      pub once : IsAscending OfOthers staged
      pub apart : IsAscending AreStagedApart staged

    -- these tables are served with these contents that are being received: the places of both have no byte in common
    pub record IsServed (staged : List Staged) (t : Tables) : Type 0 where
      pub places : AllByRecursion (IsPlace staged) (places_in t)
      pub single : HasSinglePlaces t
      pub separate : IsAscending ArePlacesApart (places_in t)
      pub beside : AreBeside staged (places_in t)
      pub uploads : AllByRecursion (IsStagedIn t) staged
