use Rattle.std.proofs.Common.{arith, ◌∙◌, ap, string_bytes}
use Rattle.command_line.proofs.Refused.{after_name, word_at, returned}
use Rattle.command_line.proofs.words.read_tokens_args.Goals as goal

pub returns-in_err-repo_in-clause-none : goal.returns-in_err-repo_in-clause-none
returns-in_err-repo_in-clause-none c =
    returned _ _ _ c.from_residual.ensures.1 (λ same args range e. c.in_err-repo_in.ensures.none same args.repo (c.deref.ensures ∙ ap string_bytes c.repo-item.is ∙ word_at c.args.words.now _ 0 c.repo-item.result (after_name _ _ _ e) (omega arith)))
