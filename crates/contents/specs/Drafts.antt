-- Contents that are being written.
use Rattle.std.specs.Prelude.{◌≡◌, ℕ, List, length}
use Rattle.contents.specs.declared.region.Region.{Region}
use Rattle.contents.specs.declared.draft.Draft.{Draft}
use Rattle.contents.specs.Regions.{IsInside}
use Rattle.contents.specs.Files.{HasAt}

-- where the content of a draft is to be
abbrev pub region_of : Draft → Region
region_of draft = draft.region

-- how many of its bytes are written
abbrev pub written_of : Draft → ℕ
written_of draft = draft.written

-- the file has these first bytes of the content, which are all that are written
pub record HasWritten (file : List ℕ) (draft : Draft) (bytes : List ℕ) : Type 0 where
  pub size : length bytes ≡ draft.written
  pub there : HasAt file draft.region.start bytes

-- n more bytes fit into the region of the draft
abbrev pub HasRoomFor : Draft → (n : ℕ) → Type 0
HasRoomFor draft n = IsInside draft.region draft.region.size draft.written n

-- n bytes of the content from its byte `at` on are written
abbrev pub AreWritten : Draft → (at n : ℕ) → Type 0
AreWritten draft at n = IsInside draft.region draft.written at n
