-- What a file of contents has, and what a call and a stop leave of it.
use Rattle.std.specs.Prelude.{◌≡◌, ◌≤◌, ◌<◌, ◌+◌, ℕ, false, List, length, Contains, IsTrue}
use Rattle.sqlite_disk.specs.Disk.{Holds, Follows, MoreFaults}
use Rattle.sqlite_disk.specs.declared.Disk.{Ghosts}
use Rattle.contents.specs.Regions.{AreApart, end_of}
use Rattle.contents.specs.declared.region.Region.{Region}
use Rattle.contents.specs.declared.fault.ContentsFault.{ContentsFault}
use Rattle.contents.specs.declared.fault.ContentsFault.TheVariants.{Outside, Unfinished, Unusable, Failed}

-- the file has these bytes from there on; of no bytes this says nothing
abbrev pub HasAt : (file : List ℕ) (at : ℕ) (bytes : List ℕ) → Type 0
HasAt file at bytes = 0 < length bytes → Holds file at bytes

-- the file has this content in this region
pub record HasContent (file : List ℕ) (region : Region) (content : List ℕ) : Type 0 where
  pub size : length content ≡ region.size
  pub there : HasAt file region.start content

-- all bytes apart from these n are still there
abbrev pub KeepsOthers : (at n : ℕ) (old new : List ℕ) → Type 0
KeepsOthers at n old new = (other : ℕ) (bytes : List ℕ) → AreApart at n other (length bytes)
    → HasAt old other bytes → HasAt new other bytes

-- each content is still there whose region is apart from this one
abbrev pub KeepsContents : Region → (old new : List ℕ) → Type 0
KeepsContents region old new = (other : Region) (content : List ℕ) → AreApart region.start region.size other.start other.size
    → HasContent old other content → HasContent new other content

-- all bytes that lie in one of the regions are still there
abbrev pub KeepsRegions : List Region → (old new : List ℕ) → Type 0
KeepsRegions regions old new = (region : Region) → Contains regions region → (at : ℕ) (bytes : List ℕ)
    → region.start ≤ at → at + length bytes ≤ end_of region → HasAt old at bytes → HasAt new at bytes

module _ {D : Type 0} (g : Ghosts D) where
  -- the bytes of the file are those of before, a stop leaves nothing that it did not leave before, and the disk was honest
  -- if it is
  pub record IsSameFile (old new : D) : Type 0 where
    pub seen : g.seen new ≡ g.seen old
    pub stop : (left : List ℕ) → g.may_leave new left → g.may_leave old left
    pub clean : IsTrue (g.is_clean new) → IsTrue (g.is_clean old)

  -- the file, and whatever a stop leaves of it, was changed by this step; the disk was honest if it is, and may be used if it
  -- might before
  pub record IsChangedBy (step : List ℕ → List ℕ → Type 0) (old new : D) : Type 0 where
    pub seen : step (g.seen old) (g.seen new)
    pub stop : Follows step (g.may_leave old) (g.may_leave new)
    pub clean : IsTrue (g.is_clean new) → IsTrue (g.is_clean old)
    pub usable : IsTrue (g.is_usable old) → IsTrue (g.is_usable new)

  -- the file goes to this offset, if the disk was honest
  abbrev pub ReachesTo : (end : ℕ) → D → Type 0
  ReachesTo end file = IsTrue (g.is_clean file) → end ≤ length (g.seen file)

  -- the fault says why a call failed: its bytes are not inside; not all is written; both is right, and no call of the file
  -- is allowed any more; or a call of the file failed, which is counted in this case
  abbrev pub FailsFor : ContentsFault → (inside finished counted : Type 0) → (old new : D) → Type 0
  FailsFor Outside inside finished counted old new = (inside → ⊥) × (new ≡ old)
  FailsFor Unfinished inside finished counted old new = (finished → ⊥) × (new ≡ old)
  FailsFor Unusable inside finished counted old new = inside × finished × (g.is_usable old ≡ false) × (new ≡ old)
  FailsFor (Failed error) inside finished counted old new =
      inside × finished × IsTrue (g.is_usable old) × (counted → MoreFaults (g.faults old) (g.faults new))
