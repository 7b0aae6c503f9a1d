use Rattle.policy.proofs.Prelude.{lit<}
use Rattle.std.proofs.lemmas.Str.Pattern.{strip_suffix_char}
use Rattle.policy.proofs.Slashes.{before_slash-from_strip}
use Rattle.policy.proofs.entries.before_slash.Goals as goal

pub returns : goal.returns
returns c = before_slash-from_strip c.args.text.now _ (strip_suffix_char 47 c.args.text.now c.strip_suffix.result c.strip_suffix.ensures.cases (lit< tt))
