-- The ids are those of the uploads that were gone through.
use Rattle.std.proofs.Common.{◌≡◌, filter, map, take}
use Rattle.tables.specs.Staging.{upload_number}
use Rattle.placed.specs.Opening.{has_key}
use Rattle.placed.proofs.opening.ids_in.Given as goal

abbrev pub invariant-loop-upload : goal.invariant-loop-upload
invariant-loop-upload l =
    map upload_number l.ids.items ≡ filter (has_key l.keys) (map (λ row. upload_number row.id) (take l.upload-index l.uploads))
