use Rattle.std.proofs.Common.{codes}
use Rattle.std.proofs.lemmas.Str.Pattern.{contains_text}
use Rattle.names.proofs.Splits.{dots_are}
use Rattle.names.proofs.texts.has_two_dots.Goals as goal

pub returns : goal.returns
returns c = dots_are c.contains.result c.args.text.now (contains_text c.contains.result (codes "..") c.args.text.now c.contains.ensures.cases)
