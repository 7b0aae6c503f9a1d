use Rattle.wire.proofs.Prelude.{◌∙◌, sym, ap, reverse, List, ℕ, reverse-reverse, skip_ows}
use Rattle.httparse.specs.Grammar.{trim_ows}
use Rattle.wire.proofs.ows.trim_ows.Goals as goal

pub returns : goal.returns
unfolding trim_ows
returns c =
    sym (reverse-reverse c.trim_back.result.now) ∙ ap reverse c.trim_back.ensures
    ∙ ap (λ (t : List ℕ). reverse (skip_ows (reverse t))) c.trim_front.ensures
