-- What a repository uses.
use Rattle.std.specs.Prelude.{◌≡◌, ℕ, ℤ, pos, ◌*◌, ◌/◌, ◌==◌, ◌++◌, List, [], ◌∷◌, length, find, Option, Some, None, option_map, if◌then◌else◌, codes, decimal}
use Rattle.std.specs.List.{AllZip}
use Rattle.store.specs.declared.state.State.{Ghosts}
use Rattle.store.specs.declared.room.Room.{Room}
use Rattle.policy.specs.Values.{repo_view}
use Rattle.policy.specs.declared.repos.Repo.{Repo}
use Rattle.model.specs.Policy as model
use Rattle.model.specs.World.{World, total}
use Rattle.model.specs.RepoState.{locks_of, objects_of}
use Rattle.tables.specs.Rows.{Tables}
use Rattle.store.specs.Shown.{IsHonest, IsOpen, shown}
use Rattle.tables.specs.Statements.{is_staged_in}
use Rattle.operator.specs.Columns.{table_lines}
use Rattle.operator.specs.Listed.{line}
use Rattle.operator.specs.Tokens.{valid_in}
use Rattle.operator.specs.declared.counting.Usage.{Usage}

-- ---- the numbers

-- the size of the upload that the repository has staged, if one is
abbrev pub staged_size : List ℕ → Tables → Option ℤ
staged_size repo t = option_map (λ u. u.size) (find (is_staged_in repo) t.uploads)

module _ {S : Type 0} (g : Ghosts S) where
  -- while the disk is honest and the store open, it shows a staged upload of this size, or none
  abbrev pub HasStaged : S → List ℕ → Option ℕ → Type 0
  HasStaged s repo size = IsHonest g s → IsOpen g s → option_map pos size ≡ staged_size repo (shown g s)

  -- the number of the repository's objects, their sizes added up, the size of its staged upload, and the numbers of its locks
  -- and of its tokens that are valid at the moment
  pub record Uses (world : World) (s : S) (repo : List ℕ) (now : ℕ) (u : Usage) : Type 0 where
    pub objects : u.objects ≡ length (objects_of repo world)
    pub bytes : u.bytes ≡ total repo world
    pub staged : HasStaged s repo u.staged
    pub locks : u.locks ≡ length (locks_of repo world)
    pub tokens : u.tokens ≡ length (valid_in repo now world)

-- ---- the table

-- how much of the quota the bytes are, in whole percent, rounded down; none for a quota of 0
abbrev pub share : (bytes quota : ℕ) → Option ℕ
share bytes quota = if quota == 0 then None else Some (bytes * 100 / quota)

-- the text of a share
abbrev pub share_text : Option ℕ → List ℕ
share_text (Some percent) = decimal percent ++ codes "%"
share_text None = codes "-"

-- the text of the size of an upload, if there is one
abbrev pub staged_text : Option ℕ → List ℕ
staged_text (Some size) = decimal size
staged_text None = codes "-"

-- the texts in the line of a repository
abbrev pub usage_cells : (repo : List ℕ) (quota : ℕ) → Usage → List (List ℕ)
usage_cells repo quota u =
    repo ∷ decimal u.objects ∷ decimal u.bytes ∷ decimal quota ∷ share_text (share u.bytes quota) ∷ staged_text u.staged
    ∷ decimal u.locks ∷ decimal u.tokens ∷ []

-- the texts are those in the line of the repository, by what it uses
abbrev pub IsLine : {S : Type 0} (g : Ghosts S) → World → S → (now : ℕ) → model.Repo → List (List ℕ) → Type 0
IsLine g world s now repo texts =
    (usage : Usage) × Uses g world s repo.name now usage × (texts ≡ usage_cells repo.name repo.quota usage)

-- the same of a repository of a policy
abbrev pub IsLineOf : {S : Type 0} (g : Ghosts S) → World → S → (now : ℕ) → Repo → List (List ℕ) → Type 0
IsLineOf g world s now repo texts = IsLine g world s now (repo_view repo) texts

-- the headings of the columns
abbrev pub usage_headings : List (List ℕ)
usage_headings =
    codes "repository" ∷ codes "objects" ∷ codes "bytes" ∷ codes "quota" ∷ codes "share" ∷ codes "staged" ∷ codes "locks"
    ∷ codes "tokens" ∷ []

-- how a file of contents is filled: how many bytes are kept and free in it, and its size
abbrev pub room_line : Room → List ℕ
room_line room =
    codes "contents: " ++ decimal room.kept ++ codes " kept, " ++ decimal room.free ++ codes " free, " ++ decimal room.size
    ++ codes " in the file"

-- the line of a file of contents, if there is one
abbrev pub room_lines : Option Room → List ℕ
room_lines (Some room) = line (room_line room)
room_lines None = []

-- the table of what each of the repositories uses, in their order, and then how the file of contents was filled
abbrev pub ListsUsage : {S : Type 0} (g : Ghosts S) → World → (old new : S) → (now : ℕ) → List model.Repo → List ℕ → Type 0
ListsUsage g world old new now repos text =
    (rows : List (List (List ℕ))) × AllZip (IsLine g world new now) repos rows
    × (room : Option Room) × g.has_room old room × (text ≡ table_lines usage_headings rows ++ room_lines room)
