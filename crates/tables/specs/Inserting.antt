-- The statement that adds an upload, whose id the database chooses.
use Rattle.std.specs.Prelude.{ℕ, pos, List, [], ◌∷◌, codes}
use Rattle.sqlite.specs.declared.types.Value.TheVariants.{Int, Text}
use Rattle.sqlite.specs.Order.{Row}
use Rattle.sqlite.specs.State.{State}
use Rattle.names.specs.Names.{repo_text}
use Rattle.tables.specs.declared.new_rows.NewUpload.{NewUpload}
use Rattle.tables.specs.Statements.{with_upload}
use Rattle.tables.specs.Runs.{Steps, tables_in}
use Rattle.tables.specs.Staging.{asked_upload, IsAbove}

-- the text of the statement
abbrev pub insert_text : List ℕ
insert_text = codes "INSERT INTO uploads (repo, oid, size, done) VALUES (?1, ?2, ?3, 0)"

-- the values bound to it
abbrev pub insert_params : NewUpload → Row
insert_params u = Text (repo_text u.repo.now) ∷ Text u.oid.now ∷ Int (pos u.size) ∷ []

-- the upload was added, under an id that is greater than that of each upload, and is the last rowid
pub record IsInserted (u : NewUpload) (old new : State) : Type 0 where
  pub above : IsAbove (tables_in old) new.last_rowid
  pub step : Steps (with_upload (asked_upload u new.last_rowid)) old new
