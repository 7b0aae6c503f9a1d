use Rattle.operator.proofs.Prelude.{refl}
use Rattle.std.proofs.Common.{lit<}
use Rattle.std.proofs.lemmas.Str.Pattern.{strip_prefix_char}
use Rattle.operator.proofs.Remotes.{after_slash, before_git}
use Rattle.operator.proofs.issuing.name_in.Goals as goal

pub returns : goal.returns
returns c = (
  c.unwrap_or-path.result.now,
  rw c.unwrap_or-path.ensures (after_slash c.args.path.now c.strip_prefix.result _ refl (strip_prefix_char 47 c.args.path.now c.strip_prefix.result c.strip_prefix.ensures.cases (lit< tt))),
  rw c.unwrap_or.ensures (before_git c.unwrap_or-path.result.now c.strip_suffix.result _ refl c.strip_suffix.ensures.cases),
)
