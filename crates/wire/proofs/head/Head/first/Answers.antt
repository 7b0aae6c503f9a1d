use Rattle.wire.proofs.Prelude.{Some, None, ◌∙◌, ap}
use Rattle.wire.proofs.FieldLemmas.{first_shown}
use Rattle.wire.proofs.head.Head.first.Goals as goal

pub returns-in-Some : goal.returns-in-Some
returns-in-Some c head s =
    ap Some c.bytes_of_span.ensures
    ∙ first_shown c.args.self.now head c.args.name.now c.field_spans.result.now (Some c.in-Some.field.now) c.field_spans.ensures c.in-Some.ensures s

pub returns-in-None : goal.returns-in-None
returns-in-None c head s =
    first_shown c.args.self.now head c.args.name.now c.field_spans.result.now None c.field_spans.ensures c.in-None.ensures s
