-- The region of a content that is removed, which goes out of use.
use Rattle.std.specs.Prelude.{◌≡◌, ◌⊎◌, ◌≤◌, ◌<◌, ℕ, ℤ, false, length, List, ◌∷◌, ◌++◌, Option, Some, None, Result, OnOk, OnErr, IfOk, option_map, Contains, IsPermutation}
use Rattle.sqlite_disk.specs.Disk.{MoreFaults}
use Rattle.sqlite_disk.specs.declared.Disk as disk
use Rattle.contents.specs.declared.region.Region.{Region}
use Rattle.contents.specs.InUse.{regions_of}
use Rattle.contents.specs.Regions.{IsLastEnd, IsReserved}
use Rattle.tables.specs.Rows.{Chunk, Upload, Tables}
use Rattle.tables.specs.Staging.{upload_number}
use Rattle.tables.specs.declared.fault.StoreFault.{StoreFault}
use Rattle.store.specs.declared.state.State.{Ghosts}
use Rattle.store.specs.Shown.{IsHonest, IsOpen, HasTables, Moves, AddsNothing, shown}
use Rattle.placed.specs.declared.placed.Placed.{Placed}
use Rattle.placed.specs.declared.staged.Staged.{Staged}
use Rattle.placed.specs.Pieces.{piece_size}
use Rattle.placed.specs.Places.{region_in}
use Rattle.placed.specs.Placed.{AreHonest, HasPlaces, staged_of}
use Rattle.placed.specs.Seeking.{AreOfOthers, IsAtPlace, place_in}

-- the region went out of use, if it was in use, and no other did
abbrev pub IsFreed : (old new : List Region) → Option Region → Type 0
IsFreed old new None = new ≡ old
IsFreed old new (Some region) = IsPermutation old (region ∷ new) ⊎ ((Contains old region → ⊥) × (new ≡ old))

-- the file ends where the last of these regions does, unless no call of it is allowed any more, or one failed
abbrev pub IsCut : {D : Type 0} → disk.Ghosts D → (old new : D) → List Region → Type 0
IsCut d old new used =
    IsLastEnd used (length (d.seen new)) ⊎ ((d.is_usable old ≡ false) ⊎ MoreFaults (d.faults old) (d.faults new))

-- the content of the upload is being received in this region
pub record IsReceivedIn (id : ℤ) (staged : List Staged) (region : Region) : Type 0 where
  pub before : List Staged
  pub content : Staged
  pub after : List Staged
  pub is : staged ≡ before ++ content ∷ after
  pub of_upload : upload_number content.id ≡ id
  pub region_is : region ≡ content.draft.region

-- the content of the upload is not being received, and no row says where it is
pub record HasNoRegion (id : ℤ) (staged : List Staged) (t : Tables) : Type 0 where
  pub others : AreOfOthers id staged
  pub nowhere : (c : Chunk) → place_in id t ≡ Some c → region_in c.bytes ≡ None

-- the region of the content of an upload: the one in which it is being received, or that of its place
abbrev pub IsHeldRegion : ℤ → List Staged → Tables → Option Region → Type 0
IsHeldRegion id staged t None = HasNoRegion id staged t
IsHeldRegion id staged t (Some region) = IsReceivedIn id staged region ⊎ IsAtPlace id staged t region

-- the same of the upload that was found
abbrev pub IsHeldBy : Option ℤ → List Staged → Tables → Option Region → Type 0
IsHeldBy None staged t found = found ≡ None
IsHeldBy (Some id) staged t found = IsHeldRegion id staged t found

-- the id of an upload, if there is one
abbrev pub id_in : Option Upload → Option ℤ
id_in = option_map (λ (u : Upload). u.id)

-- a call of an open database finds the region of an upload, and changes nothing
pub record FindsRegion {T : Type 0} (g : Ghosts T) (old new : T) (staged : List Staged) (id : Option ℤ)
    (result : Result (Option Region) StoreFault) : Type 0 where
  pub answers : IsHonest g new → HasTables g old → IsOpen g new → IfOk result (IsHeldBy id staged (shown g old))
  pub same : Moves g (λ t. t) old new
  pub adds : AddsNothing g old new

-- these regions are in use when there is room for a new content of this size: it has one if it is as large as a piece
abbrev pub HasMadeRoom : (size : ℕ) → (old used : List Region) → Type 0
HasMadeRoom size old used =
    ((size < piece_size) × (used ≡ old)) ⊎ ((piece_size ≤ size) × (region : Region) × IsReserved old used size region)

-- a call that returned Ok has taken the region of the upload that it removed out of use, and no other; after an error all
-- that were in use are
pub record Frees {T D X : Type 0} (g : Ghosts T) (d : disk.Ghosts D) (old new : Placed T D) (size : ℕ)
    (removed : Tables → Option ℤ) (result : Result X StoreFault) : Type 0 where
  pub freed : AreHonest g d new → HasPlaces g d old → OnOk result
      ((used : List Region) × HasMadeRoom size (regions_of old.regions) used × (found : Option Region)
      × IsHeldBy (removed (shown g old.rows)) (staged_of old) (shown g old.rows) found
      × IsFreed used (regions_of new.regions) found)
  pub kept : OnErr result ((r : Region) → Contains (regions_of old.regions) r → Contains (regions_of new.regions) r)
