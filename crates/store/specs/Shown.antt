-- What a call does to the tables that a store shows, and to those that a stop now would leave.
use Rattle.std.specs.Prelude.{◌≡◌, ◌⊎◌, Result, Option, List, ℕ, IfOk, OnErr, OnOk, find}
use Rattle.tables.specs.Rows.{Tables}
use Rattle.tables.specs.Statements.{is_staged_in}
use Rattle.tables.specs.Staging.{upload_number, asked_upload, IsUploadOf, IsAbove, IsBegun, after_begin}
use Rattle.tables.specs.declared.fault.StoreFault.{StoreFault}
use Rattle.tables.specs.declared.new_rows.NewUpload.{NewUpload}
use Rattle.tables.specs.declared.rows.UploadId.{UploadId}
use Rattle.tables.specs.declared.rows.UploadRow.{UploadRow}
use Rattle.store.specs.declared.state.State.{Ghosts}
use Rattle.store.specs.Normal.{normal, AreMarked, Remains}

module _ {S : Type 0} (g : Ghosts S) where
  -- so far the disks have returned what was written, and nothing else wrote the files
  abbrev pub IsHonest : S → Type 0
  IsHonest = g.is_honest

  -- the store is open
  abbrev pub IsOpen : S → Type 0
  IsOpen = g.is_open

  -- the rows of its tables
  abbrev pub shown : S → Tables
  shown = g.shown

  -- while it is honest and open, it has the tables, with rows of their types and chunks in order, and each upload is
  -- staged or complete
  pub record HasTables (s : S) : Type 0 where
    pub kept : g.has_tables s
    pub ordered : IsHonest s → IsOpen s → normal (shown s) ≡ shown s
    pub marked : IsHonest s → IsOpen s → AreMarked (shown s)

  -- the next open may find these tables, if the process or the machine stops now
  abbrev pub Leaves : S → Tables → Type 0
  Leaves s t = g.leaves s t × AreMarked t

  -- whatever the next open finds is our tables
  abbrev pub IsSafe : S → Type 0
  IsSafe = g.is_safe

  -- while it is open, it shows the result of this step on what it showed
  pub record Moves (step : Tables → Tables) (old new : S) : Type 0 where
    pub was_honest : IsHonest new → IsHonest old
    pub was_open : IsHonest new → IsOpen new → IsOpen old
    pub ready : HasTables old → HasTables new
    pub shows : IsHonest new → HasTables old → IsOpen new → shown new ≡ step (shown old)

  -- a stop now leaves what an earlier stop would have left, or what remains of tables so related to those that the open
  -- store showed
  pub record AddsAny (change : Tables → Tables → Type 0) (old new : S) : Type 0 where
    pub was_honest : IsHonest new → IsHonest old
    pub outcomes : IsHonest new → (t : Tables) → Leaves new t
        → Leaves old t ⊎ (IsOpen old × (u : Tables) × change (shown old) u × Remains u t)
    pub safe : IsHonest new → IsSafe old → IsSafe new

  -- a stop now leaves what an earlier stop would have left, or the result of this step on what the open store showed
  abbrev pub Adds : (Tables → Tables) → S → S → Type 0
  Adds step = AddsAny (λ old t. t ≡ step old)

  -- a stop now leaves no more than an earlier stop would have left
  pub record AddsNothing (old new : S) : Type 0 where
    pub was_honest : IsHonest new → IsHonest old
    pub outcomes : IsHonest new → (t : Tables) → Leaves new t → Leaves old t
    pub safe : IsHonest new → IsSafe old → IsSafe new

  -- a stop now leaves our tables: what remains of those that are shown
  pub record IsDurable (s : S) : Type 0 where
    pub only : IsHonest s → (t : Tables) → Leaves s t → Remains (shown s) t
    pub safe : IsHonest s → IsSafe s

  -- a call made this step durably: a stop now leaves only its tables
  pub record Makes (step : Tables → Tables) (old new : S) : Type 0 where
    pub moves : Moves step old new
    pub was_open : IsHonest new → IsOpen old
    pub is_open : IsHonest new → IsOpen new
    pub durable : HasTables old → IsDurable new

  -- a call made this step, of which a stop may still leave nothing
  pub record Puts (step : Tables → Tables) (old new : S) : Type 0 where
    pub moves : Moves step old new
    pub adds : HasTables old → Adds step old new

  -- a call changed nothing, but a stop now may still leave tables so related to those before
  pub record FailsAny (change : Tables → Tables → Type 0) (old new : S) : Type 0 where
    pub moves : Moves (λ t. t) old new
    pub adds : HasTables old → AddsAny change old new

  -- a call changed nothing, but a stop now may still leave the result of this step
  abbrev pub Fails : (Tables → Tables) → S → S → Type 0
  Fails step = FailsAny (λ old t. t ≡ step old)

  -- if the result is Ok, the store was open, and this relates the tables that it showed and the value
  abbrev pub Answers : {T : Type 0} → S → S → Result T StoreFault → (Tables → T → Type 0) → Type 0
  Answers old new result P = IsHonest new → HasTables old → IfOk result (λ x. IsOpen old × P (shown old) x)

  -- the whole contract of a call that only reads
  pub record Reads {T : Type 0} (old new : S) (result : Result T StoreFault)
      (P : Tables → T → Type 0) : Type 0 where
    pub answers : Answers old new result P
    pub same : Moves (λ t. t) old new
    pub adds : AddsNothing old new

  -- the whole contract of a call that makes a step
  pub record Changes {T : Type 0} (old new : S) (result : Result T StoreFault)
      (step : Tables → Tables) (P : Tables → T → Type 0) : Type 0 where
    pub answers : Answers old new result P
    pub made : OnOk result (Makes step old new)
    pub failed : OnErr result (Fails step old new)

  -- the whole contract of a call that makes a step of which a stop may still leave nothing
  pub record PutsOr {T : Type 0} (old new : S) (result : Result T StoreFault)
      (step : Tables → Tables) (P : Tables → T → Type 0) : Type 0 where
    pub answers : Answers old new result P
    pub made : OnOk result (Puts step old new)
    pub failed : OnErr result (Fails step old new)

  -- the whole contract of a call that begins an upload
  pub record Begins (old new : S) (result : Result UploadId StoreFault) (asked : NewUpload) : Type 0 where
    pub answers : Answers old new result (λ t id. IsAbove t (upload_number id))
    pub made : IfOk result (λ id. Makes (after_begin (asked_upload asked (upload_number id))) old new)
    pub failed : OnErr result (FailsAny (IsBegun asked) old new)

  -- the result is the upload that the repository has staged, of those that the store shows; the tables are unchanged
  pub record Finds (old new : S) (repo : List ℕ) (result : Result (Option UploadRow) StoreFault) : Type 0 where
    pub answers : IsHonest new → HasTables old
        → IfOk result (λ found. IsOpen new → IsUploadOf found (find (is_staged_in repo) (shown new).uploads))
    pub same : Moves (λ t. t) old new
    pub adds : AddsNothing old new
