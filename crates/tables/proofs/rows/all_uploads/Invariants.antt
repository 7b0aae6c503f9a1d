use Rattle.tables.proofs.Prelude.{◌≡◌, List, map, take, Upload, show_upload, upload_fields, read_upload}
use Rattle.tables.proofs.rows.all_uploads.Given as goal

abbrev pub invariant-loop-row : goal.invariant-loop-row
invariant-loop-row l = (uploads : List Upload) → l.rows ≡ map show_upload uploads → map read_upload l.found.items ≡ map upload_fields (take l.row-index uploads)
