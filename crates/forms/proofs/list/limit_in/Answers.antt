use Rattle.forms.proofs.Prelude.{◌∙◌, None, sym, arith}
use Rattle.std.proofs.lemmas.Str.Pattern.{strip_prefix_char}
use Rattle.forms.proofs.Numbers.{no_minus}
use Rattle.forms.proofs.list.limit_in.Goals as goal

pub returns-in-None : goal.returns-in-None
returns-in-None c =
    let none = strip_prefix_char 45 c.args.text.now None c.in-None.ensures.cases (omega arith) in
    c.number_in-in-None.ensures ∙ sym (no_minus c.args.text.now none)
