use Rattle.wire.proofs.FieldLemmas.{count_shown}
use Rattle.wire.proofs.head.Head.count.Goals as goal

pub returns : goal.returns
returns c head s =
    count_shown c.args.self.now head c.args.name.now c.field_spans.result.now c.count_of.result c.field_spans.ensures c.count_of.ensures s
