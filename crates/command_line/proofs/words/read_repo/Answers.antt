use Rattle.std.proofs.Common.{arith, ◌∙◌, ap, string_bytes}
use Rattle.command_line.proofs.Refused.{of_words, word_at}
use Rattle.command_line.proofs.words.read_repo.Goals as goal

pub returns-clause-none : goal.returns-clause-none
returns-clause-none c =
    of_words _ _ _ c.repo_in.ensures.none (λ none repo e. none repo (c.deref.ensures ∙ ap string_bytes c.repo-item.is ∙ word_at c.args.words.now _ 0 c.repo-item.result e (omega arith)))
