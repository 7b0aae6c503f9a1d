use Rattle.placed.proofs.Keeping.{altered, changed_then_same}
use Rattle.placed.proofs.completing.write_last.Goals as goal

pub returns-in-Err-clause-others : goal.returns-in-Err-clause-others
returns-in-Err-clause-others g c = rw c.deref.ensures.value at (altered g.D.Disk _ _ _ c.append.ensures.others)

pub returns-in-Ok-finish-clause-others : goal.returns-in-Ok-finish-clause-others
returns-in-Ok-finish-clause-others g c =
    rw c.deref.ensures.value at (changed_then_same g.D.Disk _ _ _ _ c.append.ensures.others c.finish.ensures.same)

pub returns-in-Ok-finish-clause-contents : goal.returns-in-Ok-finish-clause-contents
returns-in-Ok-finish-clause-contents g c = changed_then_same g.D.Disk _ _ _ _ c.append.ensures.contents c.finish.ensures.same

pub returns-in-Err-finish-clause-others : goal.returns-in-Err-finish-clause-others
returns-in-Err-finish-clause-others g c =
    rw c.deref.ensures.value at (changed_then_same g.D.Disk _ _ _ _ c.append.ensures.others c.finish.ensures.same)

pub returns-in-Err-finish-clause-contents : goal.returns-in-Err-finish-clause-contents
returns-in-Err-finish-clause-contents g c = changed_then_same g.D.Disk _ _ _ _ c.append.ensures.contents c.finish.ensures.same
