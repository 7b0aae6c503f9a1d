use Rattle.tokens.proofs.Prelude.{List, map, filter, subst, IfOk, IsPermutation, sym, user_text, repo_text, shown, IsOpen, is_held_by, TokenFields, AreTokensOf, read_token, is_of, fields_of_token}
use Rattle.std.proofs.lemmas.Result.{IfOk-weaker}
use Rattle.tokens.proofs.Listed.{held_listed}
use Rattle.tokens.proofs.holding.of.Goals as goal

pub returns : goal.returns
returns g c = record {
  same = c.tokens_of.ensures.same;
  adds = c.tokens_of.ensures.adds;
  each = λ honest world h.
      let t = shown g.S.State c.args.store.now in
      let user = user_text c.args.user.now in
      let repo = repo_text c.args.repo.now in
      let listed = map fields_of_token (filter (is_of user repo) world.tokens) in
      IfOk-weaker c.tokens_of.result
      (λ found. IsOpen g.S.State c.args.store.now × AreTokensOf found.items (filter (is_held_by user repo) t.tokens))
      (λ found. IsPermutation (map read_token found.items) listed)
      (λ found is. subst (λ (xs : List TokenFields). IsPermutation xs listed) (sym is.1) (held_listed t world user repo (h.shows (c.tokens_of.ensures.same.was_honest honest) is.0)))
      (c.tokens_of.ensures.answers honest h.ready);
}
