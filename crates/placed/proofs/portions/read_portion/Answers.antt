use Rattle.placed.proofs.Prelude.{length, rules}
use Rattle.placed.proofs.PortionRead.{portion_over, portion_read}
use Rattle.placed.proofs.portions.read_portion.Goals as goal

pub returns-in-Ok-clause-read : goal.returns-in-Ok-clause-read
returns-in-Ok-clause-read g c clean content has =
    portion_read content c.read.new.buf _ c.resize.new.self.len (length c.deref_mut.result.now) c.args.at c.args.most (search rules)
    (search rules) (search rules) (c.in-Ok.ensures.content clean content has)
