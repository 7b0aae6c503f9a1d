use Rattle.chunks.proofs.Joined.{portion_found}
use Rattle.chunks.proofs.portions.portion.Goals as goal

pub returns-in-Ok-clause-bytes : goal.returns-in-Ok-clause-bytes
returns-in-Ok-clause-bytes g c =
    portion_found g.S.State _ _ _ c.args.at c.in-Ok.found c.in-Ok.ensures.answers c.in-Ok.ensures.same.was_honest
