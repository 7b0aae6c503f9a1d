use Rattle.model.proofs.Computed.{content_has_its_name, content_is_served, quota_is_kept, upload_is_refused_early, stored_is_confirmed}
use Rattle.model.proofs.examples.objects.Goals as goal

pub returns : goal.returns
returns c = record { content_has_its_name = content_has_its_name; content_is_served = content_is_served; quota_is_kept = quota_is_kept; upload_is_refused_early = upload_is_refused_early; stored_is_confirmed = stored_is_confirmed }
