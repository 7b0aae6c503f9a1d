use Rattle.std.proofs.Common.{arith, length, ◌∙◌, ap, string_bytes}
use Rattle.std.proofs.lemmas.List.{length-map}
use Rattle.command_line.proofs.Refused.{after_name, word_at, returned}
use Rattle.command_line.proofs.words.read_may_args.Goals as goal
use Rattle.command_line.proofs.words.read_may_args.Goals.{in_default-via-then-words-lt3, in_default-via-else-words-lt3+else-words-lt4}

pub returns-in_default-clause-none : goal.returns-in_default-clause-none
returns-in_default-clause-none c =
    elim c.in_default.branch [
      | in_default-via-then-words-lt3 w ↦ (λ same args e. grind (arith, ap length e, length-map c.args.words.now string_bytes))
      | in_default-via-else-words-lt3+else-words-lt4 w ↦ (λ same args e. grind (arith, ap length e, length-map c.args.words.now string_bytes))
    ]

pub returns-in_err-user_in-clause-none : goal.returns-in_err-user_in-clause-none
returns-in_err-user_in-clause-none c =
    returned _ _ _ c.from_residual.ensures.1 (λ same args e. c.in_err-user_in.ensures.none same args.user (c.deref.ensures ∙ ap string_bytes c.user-item.is ∙ word_at c.args.words.now _ 0 c.user-item.result (after_name _ _ _ e) (omega arith)))

pub returns-in_err-repo_in-clause-none : goal.returns-in_err-repo_in-clause-none
returns-in_err-repo_in-clause-none c =
    returned _ _ _ c.from_residual-in_err-repo_in.ensures.1 (λ same args e. c.in_err-repo_in.ensures.none same args.repo (c.deref-2.ensures ∙ ap string_bytes c.repo-item.is ∙ word_at c.args.words.now _ 1 c.repo-item.result (after_name _ _ _ e) (omega arith)))

pub returns-in_err-access_in-clause-none : goal.returns-in_err-access_in-clause-none
returns-in_err-access_in-clause-none c =
    returned _ _ _ c.from_residual-in_err-access_in.ensures.1 (λ same args e. c.in_err-access_in.ensures.none same args.access (c.deref-3.ensures ∙ ap string_bytes c.access-item.is ∙ word_at c.args.words.now _ 2 c.access-item.result (after_name _ _ _ e) (omega arith)))
