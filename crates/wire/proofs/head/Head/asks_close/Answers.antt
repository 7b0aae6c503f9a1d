use Rattle.wire.proofs.Prelude.{sym}
use Rattle.wire.proofs.FieldLemmas.{closes_shown}
use Rattle.wire.proofs.head.Head.asks_close.Goals as goal

pub returns-else-is_http_1_0 : goal.returns-else-is_http_1_0
returns-else-is_http_1_0 c head s =
    closes_shown c.args.self.now head c.lists_close.result c.lists_close.ensures s (sym (c.if-is_http_1_0.ensures head s))
