-- An upload whose content has not all arrived, after calls that leave it staged; for proofs in other crates.
use Rattle.desk.proofs.Prelude.{ℕ, List, ◌∷◌, Ghosts, World, From, Keeps, IsBoundedBy, StaysWithin}
use Rattle.model.specs.Policy.{Policy}
use Rattle.store.specs.Shown.{HasTables}
use Rattle.names.specs.Names.{repo_text}
use Rattle.tables.specs.Staging.{upload_number}
use Rattle.refinement.specs.Left.{KeepsTables}
use Rattle.refinement.proofs.Staged.{stages_still}
use Rattle.uploads.proofs.Bounds.{leaves_within, stores_within}
use Rattle.desk.specs.Receiving.{IsReceiving}
use Rattle.desk.specs.declared.slices.Receiving.{Receiving}

module _ {S : Type 0} (g : Ghosts S) (a b : S) where
  -- the tables are as before
  pub receiving_still : (r : Receiving) (bytes : List ℕ) → KeepsTables g a b → HasTables g a → IsReceiving g a r bytes → IsReceiving g b r bytes
  receiving_still r bytes same tables it =
      let had = it.taken in
      let cuts = had.cuts in
      record {
        upload = it.upload;
        taken = record {
          limit = had.limit;
          within = had.within;
          counted = had.counted;
          cuts = record {
            pieces = cuts.pieces;
            cut = cuts.cut;
            staged = stages_still g a b (upload_number r.intake.upload) (repo_text r.repo) r.name r.size cuts.pieces tables same cuts.staged;
          };
        };
        left = it.left;
      }

  -- a call that keeps the world leaves each repository within the same bound
  pub keeps_within : (policy : Policy) (world : World) → Keeps g a b world → StaysWithin g a b policy world
  keeps_within policy world keeps repo most within quota = (
    stores_within g b world repo most keeps.holds within,
    λ bound was all. leaves_within g b (world ∷ bound) repo most (keeps.left bound was) (within, all),
  )
