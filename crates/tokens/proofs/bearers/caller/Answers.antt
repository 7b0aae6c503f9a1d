use Rattle.tokens.proofs.Prelude.{sym, ap, ◌∙◌, option_map, shown, read_token}
use Rattle.tokens.specs.Bearers.{single_value}
use Rattle.tokens.proofs.Calling.{unknown_token, known_token}
use Rattle.tokens.proofs.bearers.caller.Goals as goal

pub returns-in_default-2 : goal.returns-in_default-2
returns-in_default-2 g c = record {
  same = c.token.ensures.same;
  adds = c.token.ensures.adds;
  each = λ honest world h.
      let s = h.shows (c.token.ensures.same.was_honest honest) (c.in_ok-token.ensures.answers honest h.ready).0 in
      unknown_token (shown g.S.State c.args.store.now) world c.args.now (single_value (option_map (λ v. v.now) c.args.authorization)) c.in-Some.text.now c.digest_of.result s h.laws
      (sym c.in-Some.ensures) c.digest_of.ensures (ap (option_map read_token) (sym c.in_default-2.is) ∙ (c.in_ok-token.ensures.answers honest h.ready).1);
}

pub returns : goal.returns
returns g c = record {
  same = c.token.ensures.same;
  adds = c.token.ensures.adds;
  each = λ honest world h.
      let s = h.shows (c.token.ensures.same.was_honest honest) (c.in_ok-token.ensures.answers honest h.ready).0 in
      known_token (shown g.S.State c.args.store.now) world c.args.now (single_value (option_map (λ v. v.now) c.args.authorization)) c.in-Some.text.now c.digest_of.result c.in-Some-2.token c.good_at.result s h.laws
      (sym c.in-Some.ensures) c.digest_of.ensures (ap (option_map read_token) (sym c.in-Some-2.is) ∙ (c.in_ok-token.ensures.answers honest h.ready).1) c.good_at.ensures;
}
