use Rattle.service.proofs.Judged.{no_text}
use Rattle.service.proofs.judging.place_of.Goals as goal

pub returns-in_default : goal.returns-in_default
returns-in_default c h shows = rw (c.target.ensures h shows) at (no_text c.target.result.now c.in_default.ensures.cases.0)
