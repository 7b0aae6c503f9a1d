-- The bytes that were read of the upload that was found are the next of its object.
use Rattle.std.proofs.Common.{◌≡◌, ℕ, List, Option, Some, None, IfSome, length, take, drop}
use Rattle.std.specs.Global.{Vec}
use Rattle.names.specs.Names.{repo_text}
use Rattle.model.specs.World.{World}
use Rattle.tables.specs.Staging.{upload_number}
use Rattle.tables.specs.declared.rows.ObjectRow.{ObjectRow}
use Rattle.store.specs.declared.state.State.{Ghosts}
use Rattle.store.specs.Shown.{AddsNothing, HasTables, IsHonest, Moves}
use Rattle.store.proofs.Moved.{moves_then, nothing_then}
use Rattle.refinement.specs.Left.{Reads}
use Rattle.chunks.specs.Pouring.{OfBytes}
use Rattle.uploads.specs.Finding.{Finds}
use Rattle.downloads.specs.Downloads.{AreNextBytes, name_of, download_repo, sent_of}
use Rattle.downloads.specs.declared.download.Download.{Download}

module _ {S : Type 0} (g : Ghosts S) (old mid new : S) (d : Download) (row : ObjectRow) where
  -- the part is one of the upload's bytes
  abbrev IsRead : Vec ℕ → Type 0
  IsRead part =
      OfBytes g mid new (upload_number row.id) (λ content. part.items ≡ take (length part.items) (drop (sent_of d) content))

  next_of : (found : Option (Vec ℕ)) → IfSome found IsRead → IsHonest g new → HasTables g mid → (world : World)
      → Finds g world mid (repo_text (download_repo d)) (name_of d) (Some row)
      → IfSome found (λ part. AreNextBytes d part.items world)
  next_of None read honest h world finds = tt
  next_of (Some part) read honest h world finds = (finds.0, finds.1, read honest h finds.0.bytes finds.3)

  pub next_read : Reads g old mid (λ world. Finds g world mid (repo_text (download_repo d)) (name_of d) (Some row))
      → (found : Option (Vec ℕ)) → IfSome found IsRead → Moves g (λ t. t) mid new → AddsNothing g mid new
      → Reads g old new (λ world. IfSome found (λ part. AreNextBytes d part.items world))
  next_read finds found read same adds = record {
    same = moves_then g old mid new finds.same same;
    adds = nothing_then g old mid new finds.adds adds;
    each = λ honest world h.
        next_of found read honest (finds.same.ready h.ready) world (finds.each (same.was_honest honest) world h);
  }
