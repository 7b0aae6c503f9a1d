use Rattle.std.proofs.Common.{◌∙◌}
use Rattle.std.proofs.lemmas.Result.{IfOk-weaker}
use Rattle.cli.proofs.Sizes.{in_tenths}
use Rattle.cli.proofs.reading.size_text.Goals as goal

pub returns-then-bytes-lt10000000 : goal.returns-then-bytes-lt10000000
returns-then-bytes-lt10000000 c =
    IfOk-weaker c.format-then-bytes-lt10000000.result _ _ (λ text is. is ∙ in_tenths c.args.bytes c.if-bytes-lt1000000.false c.if-bytes-lt10000000.true) c.format-then-bytes-lt10000000.ensures.ok
