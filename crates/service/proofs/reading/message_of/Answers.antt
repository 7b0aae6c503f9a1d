use Rattle.service.proofs.Prelude.{◌∙◌, err_from_is_err_and}
use Rattle.service.specs.Reading.{by_rule}
use Rattle.service.proofs.Whole.{asked_in, body_cut, body_there, head_fault}
use Rattle.service.proofs.reading.message_of.Goals as goal

pub returns-in_err-asked : goal.returns-in_err-asked
returns-in_err-asked c bytes h shows begins =
    let p = err_from_is_err_and c.from_residual.result c.from_residual.ensures.1 in
    rw (p.1, p.2) (head_fault bytes c.args.rest.now h c.in_err-asked.field-0.0 begins (c.in_err-asked.ensures h shows))

pub returns-in_default : goal.returns-in_default
returns-in_default c bytes h shows begins =
    body_cut bytes c.args.rest.now h c.in_ok-asked.asked begins (c.in_ok-asked.ensures h shows) c.in_default.ensures

pub returns-in-Ok : goal.returns-in-Ok
returns-in-Ok c bytes h shows begins =
    let asks = c.in_ok-asked.ensures h shows in
    let body = c.in-Some.ensures in
    record {
      head = h;
      rest = _;
      begins = body_there bytes c.args.rest.now h c.in_ok-asked.asked begins asks c.in-Some.body.now body.0 body.1;
      asks = asks;
      request = asked_in h c.in_ok-asked.asked c.in-Some.body.now asks ∙ (rw c.in-Ok.is at c.in_ok-request.ensures);
    }

pub returns : goal.returns
returns c bytes h shows begins =
    let asks = c.in_ok-asked.ensures h shows in
    let body = c.in-Some.ensures in
    by_rule h c.in-Some.body.now _ (body_there bytes c.args.rest.now h c.in_ok-asked.asked begins asks c.in-Some.body.now body.0 body.1)
    (asked_in h c.in_ok-asked.asked c.in-Some.body.now asks ∙ (rw c.in-Err.is at c.in_ok-request.ensures))
