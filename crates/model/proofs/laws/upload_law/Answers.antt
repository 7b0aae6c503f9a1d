use Rattle.model.proofs.Uploads.{only_these_change_objects, totals_follow_objects, totals_grow_by_uploads}
use Rattle.model.proofs.laws.upload_law.Goals as goal

pub returns : goal.returns
returns c = record { objects = only_these_change_objects; totals = totals_follow_objects; uploads = totals_grow_by_uploads }
