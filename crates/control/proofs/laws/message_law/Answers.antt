use Rattle.control.proofs.Frames.{frames-differ, refusal-differs, replies-differ}
use Rattle.control.proofs.Results.{requests-differ}
use Rattle.control.proofs.laws.message_law.Goals as goal

pub returns-clause-requests : goal.returns-clause-requests
returns-clause-requests c = requests-differ

pub returns-clause-replies : goal.returns-clause-replies
returns-clause-replies c = replies-differ

pub returns-clause-frames : goal.returns-clause-frames
returns-clause-frames c = frames-differ

pub returns-clause-refusal : goal.returns-clause-refusal
returns-clause-refusal c = refusal-differs
