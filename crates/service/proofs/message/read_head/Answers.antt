use Rattle.service.proofs.Prelude.{err_from_is_err_and, target_seen}
use Rattle.service.proofs.Messages.{asks_copy}
use Rattle.service.proofs.message.read_head.Goals as goal

pub returns-in_err-target : goal.returns-in_err-target
returns-in_err-target c h shows =
    let p = err_from_is_err_and c.from_residual.result c.from_residual.ensures.1 in
    rw (p.1, p.2) (c.in_err-target.ensures h shows)

pub returns-in_err-asked : goal.returns-in_err-asked
returns-in_err-asked c h shows =
    let p = err_from_is_err_and c.from_residual-in_err-asked.result c.from_residual-in_err-asked.ensures.1 in
    rw (p.1, p.2) (target_seen c.in_ok-target.target, (c.in_ok-target.ensures h shows).target)

pub returns : goal.returns
returns c h shows =
    asks_copy h c.in_ok-target.target c.first.result c.asks_close.result c.in_ok-asked.asked (c.in_ok-target.ensures h shows) c.in_ok-asked.ensures (c.first.ensures h shows) (c.asks_close.ensures h shows)
