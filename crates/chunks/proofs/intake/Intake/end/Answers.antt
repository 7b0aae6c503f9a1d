use Rattle.chunks.proofs.Cutting.{whole_with}
use Rattle.chunks.proofs.intake.Intake.end.Goals as goal

pub returns-clause-whole : goal.returns-clause-whole
returns-clause-whole c pieces bytes cut = whole_with (record { n = c.args.self.written; bytes = c.args.self.last }) pieces bytes cut
