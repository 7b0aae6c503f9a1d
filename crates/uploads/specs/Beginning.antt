-- Uploads that are begun.
use Rattle.std.specs.Prelude.{ℕ, List, [], Result, Ok, Err}
use Rattle.store.specs.declared.state.State.{Ghosts}
use Rattle.names.specs.Names.{repo_text}
use Rattle.names.specs.declared.texts.RepoName.{RepoName}
use Rattle.model.specs.World.{World}
use Rattle.tables.specs.Staging.{upload_number}
use Rattle.tables.specs.declared.fault.StoreFault.{StoreFault}
use Rattle.tables.specs.declared.rows.UploadId.{UploadId}
use Rattle.refinement.specs.Left.{Keeps}
use Rattle.refinement.specs.Staging.{Stages}

module _ {S : Type 0} (g : Ghosts S) where
  -- the upload is staged, with no bytes yet, or the store refused; the world is kept
  abbrev pub Begins : World → RepoName → List ℕ → ℕ → S → S → Result UploadId StoreFault → Type 0
  Begins world repo oid size old new (Ok id) =
      Keeps g old new world × Stages g new (upload_number id) (repo_text repo) oid size []
  Begins world repo oid size old new (Err fault) = Keeps g old new world
