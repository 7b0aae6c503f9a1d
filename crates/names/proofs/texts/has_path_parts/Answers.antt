use Rattle.std.proofs.Common.{rules, lit<}
use Rattle.std.proofs.lemmas.Iterator.Search.{all_from_yields_List}
use Rattle.std.proofs.lemmas.Iterator.Splits.{YieldsList-from_str_split}
use Rattle.names.specs.Texts.{is_path_part}
use Rattle.names.proofs.texts.has_path_parts.Goals as goal

pub returns : goal.returns
returns c =
    all_from_yields_List is_path_part _ _ _ c.all.ensures.ran
    (YieldsList-from_str_split 47 c.args.text.now (lit< tt) c.split.ensures.text c.split.ensures.has_more c.split.ensures.pattern)
    (λ x b q h. search rules)
