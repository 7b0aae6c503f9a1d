use Rattle.tokens.proofs.Prelude.{List, map, filter, subst, IfOk, IsPermutation, sym, repo_text, shown, IsOpen, is_for, TokenFields, AreTokensOf, read_token, is_in, fields_of_token}
use Rattle.std.proofs.lemmas.Result.{IfOk-weaker}
use Rattle.tokens.proofs.Listed.{all_listed}
use Rattle.tokens.proofs.holding.all.Goals as goal

pub returns : goal.returns
returns g c = record {
  same = c.tokens_in.ensures.same;
  adds = c.tokens_in.ensures.adds;
  each = λ honest world h.
      let t = shown g.S.State c.args.store.now in
      let repo = repo_text c.args.repo.now in
      let listed = map fields_of_token (filter (is_in repo) world.tokens) in
      IfOk-weaker c.tokens_in.result
      (λ found. IsOpen g.S.State c.args.store.now × AreTokensOf found.items (filter (is_for repo) t.tokens))
      (λ found. IsPermutation (map read_token found.items) listed)
      (λ found is. subst (λ (xs : List TokenFields). IsPermutation xs listed) (sym is.1) (all_listed t world repo (h.shows (c.tokens_in.ensures.same.was_honest honest) is.0)))
      (c.tokens_in.ensures.answers honest h.ready);
}
