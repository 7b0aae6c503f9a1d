-- A store over a database that names places in its file is opened.
use Rattle.std.specs.Prelude.{◌≡◌, ◌⊎◌, ◌≢◌, ◌≤◌, ⊤, ℕ, ℤ, Bool, List, [], ◌∷◌, map, filter, length, Some, All, Contains, IsTrue}
use Rattle.std.specs.List.{AllByRecursion, list_any}
use Rattle.std.specs.Ordering.{int_eq}
use Rattle.sqlite_trees.specs.Tree.{IsAscending}
use Rattle.sqlite_disk.specs.Disk.{MoreFaults}
use Rattle.sqlite_disk.specs.declared.Disk as disk
use Rattle.contents.specs.declared.region.Region.{Region}
use Rattle.contents.specs.InUse.{regions_of}
use Rattle.contents.specs.Regions.{IsLastEnd, end_of, largest_end}
use Rattle.contents.specs.Files.{IsSameFile}
use Rattle.tables.specs.Rows.{Chunk, Upload, Tables}
use Rattle.tables.specs.Staging.{upload_number, without_staged}
use Rattle.tables.specs.Statements.{is_of, is_staged}
use Rattle.store.specs.declared.state.State.{Ghosts}
use Rattle.store.specs.Normal.{Remains}
use Rattle.store.specs.Shown.{IsDurable, IsHonest, IsOpen, HasTables, Leaves, Moves, AddsAny, AddsNothing, shown}
use Rattle.placed.specs.declared.fault.PlaceFault.{PlaceFault}
use Rattle.placed.specs.declared.fault.PlaceFault.TheVariants.{Unreadable, Overlapping, Short, Store, Contents}
use Rattle.tables.specs.declared.rows.ChunkKey.{ChunkKey}
use Rattle.tables.specs.declared.rows.NumberedChunk.{NumberedChunk}
use Rattle.placed.specs.Places.{region_in}
use Rattle.placed.specs.declared.placed.Placed.{Placed}
use Rattle.placed.specs.Kept.{ArePlacesApart, places_in}

-- ---- regions

-- the region has a byte, and ends where a file may end
pub record IsRegion (region : Region) : Type 0 where
  pub some : 1 ≤ region.size
  pub possible : end_of region ≤ largest_end

-- these bytes name this region
pub record IsNamed (bytes : List ℕ) (region : Region) : Type 0 where
  pub means : region_in bytes ≡ Some region
  pub is : IsRegion region

-- each of the rows names the region with its index
pub record AreNamed (rows : List NumberedChunk) (regions : List Region) : Type 0 where
  pub means : map (λ (row : NumberedChunk). region_in row.bytes.items) rows ≡ map Some regions
  pub are : All IsRegion regions

-- ---- places

-- no two of these places have a byte or an upload in common
pub record AreDistinct (places : List Chunk) : Type 0 where
  pub separate : IsAscending ArePlacesApart places
  pub single : IsAscending (λ (a b : Chunk). a.upload ≢ b.upload) places

-- the place is that of a content in a file of this length
pub record IsGoodPlace (len : ℕ) (place : Chunk) : Type 0 where
  pub region : Region
  pub named : IsNamed place.bytes region
  pub within : end_of region ≤ len

-- the places are those of contents in a file of this length
pub record AreGood (len : ℕ) (places : List Chunk) : Type 0 where
  pub each : AllByRecursion (IsGoodPlace len) places
  pub distinct : AreDistinct places

-- the place is that of a content in one of these regions
pub record IsTaken (regions : List Region) (place : Chunk) : Type 0 where
  pub region : Region
  pub named : IsNamed place.bytes region
  pub used : Contains regions region

-- the places are those of contents in these regions
pub record AreTaken (regions : List Region) (places : List Chunk) : Type 0 where
  pub each : AllByRecursion (IsTaken regions) places
  pub distinct : AreDistinct places

-- the fault says that the places are not those of contents in the file
abbrev pub IsOfPlaces : PlaceFault → Type 0
IsOfPlaces Unreadable = ⊤
IsOfPlaces Overlapping = ⊤
IsOfPlaces Short = ⊤
IsOfPlaces (Store fault) = ⊥
IsOfPlaces (Contents fault) = ⊥

-- the call ended with a database and a file that are as they were, and if both were honest until then, the places are not
-- those of contents in the file
pub record RefusesPlaces {T D : Type 0} (g : Ghosts T) (d : disk.Ghosts D) (rows : T) (file : D) : Type 0 where
  pub ended_rows : T
  pub ended_file : D
  pub still : Moves g (λ t. t) rows ended_rows
  pub adds : AddsNothing g rows ended_rows
  pub same : IsSameFile d file ended_file
  pub bad : IsHonest g ended_rows → IsTrue (d.is_clean ended_file) → HasTables g rows
      → AreGood (length (d.seen file)) (places_in (shown g rows)) → ⊥

-- ---- staged uploads

-- the ids of the staged ones among these uploads
abbrev pub staged_ids : List Upload → List ℤ
staged_ids uploads = map (λ (u : Upload). u.id) (filter is_staged uploads)

-- one of the chunks is of this upload
abbrev pub has_chunk : List Chunk → ℤ → Bool
has_chunk chunks id = list_any (is_of id) chunks

-- one of the keys is of this upload
abbrev pub has_key : List ChunkKey → ℤ → Bool
has_key keys id = list_any (λ (k : ChunkKey). int_eq (upload_number k.upload) id) keys

-- the ids of the staged uploads whose chunks are in rows
abbrev pub chunked_ids : Tables → List ℤ
chunked_ids t = filter (has_chunk t.chunks) (staged_ids t.uploads)

-- the tables without the staged uploads that have these ids, and without their chunks
abbrev pub without_all : List ℤ → Tables → Tables
without_all [] t = t
without_all (id ∷ ids) t = without_all ids (without_staged id t)

-- the tables without the staged uploads whose chunks are in rows, and without these
abbrev pub cleared : Tables → Tables
cleared t = without_all (chunked_ids t) t

-- the second tables are the first without some of the staged uploads
abbrev pub LacksStaged : Tables → Tables → Type 0
LacksStaged t left = (ids : List ℤ) × (left ≡ without_all ids t)

module _ {S : Type 0} (g : Ghosts S) where
  -- while the store is honest and open, a stop leaves what it shows
  abbrev pub IsDurableIfOpen : S → Type 0
  IsDurableIfOpen s = IsHonest g s → IsOpen g s → IsDurable g s

  -- the store shows and a stop leaves what was before, but for some staged uploads
  pub record ClearsSome (old new : S) : Type 0 where
    pub was_honest : IsHonest g new → IsHonest g old
    pub was_open : IsHonest g new → IsOpen g new → IsOpen g old
    pub ready : HasTables g old → HasTables g new
    pub shows : IsHonest g new → HasTables g old → IsOpen g new → LacksStaged (shown g old) (shown g new)
    pub adds : HasTables g old → AddsAny g LacksStaged old new

  -- the store shows what it showed, cleared
  abbrev pub ShowsCleared : S → S → Type 0
  ShowsCleared old new = IsHonest g new → HasTables g old → IsOpen g new → shown g new ≡ cleared (shown g old)

  -- the store was open, and a stop leaves that, if before it left what was shown
  abbrev pub LeavesCleared : S → S → Type 0
  LeavesCleared old new = HasTables g old → IsHonest g new
      → IsOpen g old × (IsDurable g old → (t : Tables) → Leaves g new t → Remains (cleared (shown g old)) t)

-- the file ends where the last place does, unless a call of it failed
abbrev pub IsCutFrom : {T D : Type 0} → disk.Ghosts D → (file : D) → Placed T D → Type 0
IsCutFrom d file s = IsLastEnd (regions_of s.regions) (length (d.seen s.disk)) ⊎ MoreFaults (d.faults file) (d.faults s.disk)

-- the call ended with a database that is as it was, but for some staged uploads, and with the same file
pub record HasClosed {T D : Type 0} (g : Ghosts T) (d : disk.Ghosts D) (rows : T) (file : D) : Type 0 where
  pub ended_rows : T
  pub ended_file : D
  pub some : ClearsSome g rows ended_rows
  pub same : IsSameFile d file ended_file
