use Rattle.operator.proofs.Prelude.{rules, refl, ◌∙◌, [], ◌∷◌}
use Rattle.std.proofs.Common.{◌==◌}
use Rattle.std.proofs.lemmas.Bool.Decides.{Decides-eqb}
use Rattle.std.proofs.lemmas.Iterator.Consumers.{YieldsList-end}
use Rattle.std.proofs.lemmas.Iterator.Splits.{YieldsList-from_slice_split}
use Rattle.std.proofs.lemmas.Slice.Eq.{strip_suffix_is}
use Rattle.operator.proofs.Listed.{parts_are_lines, text_in}
use Rattle.operator.proofs.paths.paths_in.Goals as goal

pub returns : goal.returns
returns c =
    let bytes = c.args.bytes.now in
    let text = c.unwrap_or-lines.result in
    let cut = strip_suffix_is Decides-eqb bytes (10 ∷ []) c.strip_suffix.result c.strip_suffix.ensures.cases in
    let parts = YieldsList-end
    (YieldsList-from_slice_split _ (λ byte. byte == 10) text.now (cc) (cc) c.split-line-items.ensures.closure (λ x b q h. search rules))
    c.loop-line.yielded _ c.loop-line.yielded_by _ _ c.in-None.is c.next.ensures.steps in
    record { lines = parts_are_lines bytes text.now _ (text_in bytes _ c.args.bytes text cut c.unwrap_or-lines.ensures refl) (c.loop-line.invariant ∙ parts.0) }
