-- A database with a file of contents as a store.
use Rattle.std.specs.Prelude.{◌≡◌, ◌+◌, ◌&&◌, ℕ, Bool, List, [], length, sum_by, Some, IsTrue, false}
use Rattle.std.specs.List.{AllByRecursion}
use Rattle.sqlite_disk.specs.declared.Disk as disk
use Rattle.contents.specs.declared.region.Region.{Region}
use Rattle.contents.specs.Regions.{IsLastEnd}
use Rattle.contents.specs.InUse.{regions_of}
use Rattle.tables.specs.Rows.{Tables}
use Rattle.store.specs.declared.state.State.{Ghosts}
use Rattle.store.specs.declared.room.Room.{Room}
use Rattle.store.specs.Normal.{settled}
use Rattle.store.specs.Shown.{IsHonest, IsOpen, HasTables, Leaves, shown}
use Rattle.placed.specs.declared.placed.Placed.{Placed}
use Rattle.placed.specs.declared.staged.Staged.{Staged}
use Rattle.placed.specs.View.{view}
use Rattle.placed.specs.Kept.{IsPlace, AreReceived, IsServed, places_in}

-- its database
abbrev pub database_of : {T D : Type 0} → Placed T D → T
database_of s = s.rows

-- its file
abbrev pub file_of : {T D : Type 0} → Placed T D → D
file_of s = s.disk

-- the contents that are being received
abbrev pub staged_of : {T D : Type 0} → Placed T D → List Staged
staged_of s = s.staged.items

-- a content was noted as lost
abbrev pub has_noted_loss : {T D : Type 0} → Placed T D → Bool
has_noted_loss s = s.has_lost

-- so far the file has returned what was written
abbrev pub IsFileHonest : {T D : Type 0} → disk.Ghosts D → Placed T D → Type 0
IsFileHonest d s = IsTrue (d.is_clean s.disk) × (has_noted_loss s ≡ false)

-- the database names no place in a file, nor does what a stop leaves of it
pub record HasNoPlace {T : Type 0} (g : Ghosts T) (rows : T) : Type 0 where
  pub shown : IsHonest g rows → IsOpen g rows → places_in (shown g rows) ≡ []
  pub left : IsHonest g rows → (u : Tables) → Leaves g rows u → places_in u ≡ []

module _ {T D : Type 0} (g : Ghosts T) (d : disk.Ghosts D) where
  -- so far the disk of the database and that of the file have returned what was written
  abbrev pub AreHonest : Placed T D → Type 0
  AreHonest s = IsHonest g s.rows × IsFileHonest d s

  -- the tables of the database, with the contents in the file
  abbrev pub shown_with : Placed T D → Tables
  shown_with s = view (d.seen s.disk) (staged_of s) (shown g s.rows)

  -- each place that the database shows, or may show after a stop, has its content in the file
  pub record IsPlaced (s : Placed T D) : Type 0 where
    pub received : AreReceived d s.disk s.regions (staged_of s)
    pub served : IsOpen g s.rows → IsServed d s.disk s.regions (staged_of s) (shown g s.rows)
    pub left : (u : Tables) → Leaves g s.rows u → AllByRecursion (IsPlace d s.disk s.regions (staged_of s)) (places_in u)

  -- the database has its tables, and their places are those of the file
  pub record HasPlaces (s : Placed T D) : Type 0 where
    pub rows : HasTables g s.rows
    pub placed : AreHonest s → IsPlaced s

  -- the next open may find these tables, without the chunks of staged uploads
  pub record LeavesWith (s : Placed T D) (t : Tables) : Type 0 where
    pub rows : Tables
    pub file : List ℕ
    pub by_rows : Leaves g s.rows rows
    pub by_file : d.may_leave s.disk file
    pub is : t ≡ settled (view file [] rows)

  -- the room of the file: the bytes of the regions that are in use, what is free before the end of the last of them, and
  -- the size of the file
  pub record IsRoomOf (s : Placed T D) (room : Room) : Type 0 where
    pub kept : room.kept ≡ sum_by (λ (region : Region). region.size) (regions_of s.regions)
    pub free : IsLastEnd (regions_of s.regions) (room.kept + room.free)
    pub size : room.size ≡ length (d.seen s.disk)

  -- what such a store is to the contracts of its calls
  abbrev pub beside : Ghosts (Placed T D)
  beside = record {
    is_honest = AreHonest;
    is_open = λ s. IsOpen g s.rows;
    has_tables = HasPlaces;
    shown = shown_with;
    leaves = LeavesWith;
    is_safe = λ s. g.is_safe s.rows;
    is_usable = λ s. g.is_usable s.rows && d.is_usable s.disk;
    has_room = λ s found. (room : Room) × (found ≡ Some room) × IsRoomOf s room;
  }
