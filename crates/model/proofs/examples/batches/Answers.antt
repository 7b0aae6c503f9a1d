use Rattle.model.proofs.Computed.{upload_is_offered, download_is_offered, objects_are_invalid, objects_are_refused, hash_is_refused, retired_is_gone, batch_is_refused}
use Rattle.model.proofs.examples.batches.Goals as goal

pub returns : goal.returns
returns c = record { upload_is_offered = upload_is_offered; download_is_offered = download_is_offered; objects_are_invalid = objects_are_invalid; objects_are_refused = objects_are_refused; hash_is_refused = hash_is_refused; retired_is_gone = retired_is_gone; batch_is_refused = batch_is_refused }
