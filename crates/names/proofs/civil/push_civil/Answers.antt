use Rattle.std.proofs.Common.{append_assoc}
use Rattle.names.proofs.civil.push_civil.Goals as goal

pub returns : goal.returns
returns c = rw (c.in_ok-push_mark-2.ensures, c.in_ok-push_time.ensures, c.in_ok-push_mark.ensures, c.in_ok-push_date.ensures) (simp append_assoc)
