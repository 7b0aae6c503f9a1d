use Rattle.tokens.proofs.Prelude.{◌∙◌, ap, find, is_some, List, ℕ, sha256, shown, has_digest, read_token, token_fields, some_alike, token_known}
use Rattle.tokens.proofs.issuing.is_known.Goals as goal

pub returns : goal.returns
returns g c = record {
  same = c.token.ensures.same;
  adds = c.token.ensures.adds;
  each = λ honest world h.
      let t = shown g.S.State c.args.store.now in
      let s = h.shows (c.in_ok-token.ensures.same.was_honest honest) (c.in_ok-token.ensures.answers honest h.ready).0 in
      let digest = c.digest-digest.ensures ∙ ap sha256 c.as_bytes.ensures.value in
      let found = (c.in_ok-token.ensures.answers honest h.ready).1 in
      c.is_some.ensures
      ∙ some_alike read_token token_fields c.in_ok-token.field-0 (find (has_digest c.digest-digest.result) t.tokens) found
      ∙ ap (λ (d : List ℕ). is_some (find (has_digest d) t.tokens)) digest
      ∙ token_known t world c.args.text.now s h.laws;
}
