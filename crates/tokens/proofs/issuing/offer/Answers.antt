use Rattle.tokens.proofs.Prelude.{◌∙◌, token_until}
use Rattle.tokens.proofs.issuing.offer.Goals as goal

pub returns : goal.returns
returns g c = record {
  same = c.judge.ensures.same;
  adds = c.judge.ensures.adds;
  each = λ honest world h. (
    token_until c.args.asked.now c.as_str.result.now c.in_ok-judge.field-0,
    c.in_ok-judge.ensures.each honest world h (c.as_str.ensures.value ∙ c.in_ok-text.ensures.text),
    c.as_str.ensures.value,
  );
}
