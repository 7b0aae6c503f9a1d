use Rattle.model.proofs.Computed.{nameless_is_refused, token_expires, repository_is_unknown, download_locks_nothing, cut_is_unanswered}
use Rattle.model.proofs.examples.callers.Goals as goal

pub returns : goal.returns
returns c = record { nameless_is_refused = nameless_is_refused; token_expires = token_expires; repository_is_unknown = repository_is_unknown; download_locks_nothing = download_locks_nothing; cut_is_unanswered = cut_is_unanswered }
