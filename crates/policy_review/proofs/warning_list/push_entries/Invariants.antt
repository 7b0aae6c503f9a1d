use Rattle.policy_review.proofs.Prelude.{◌≡◌, ◌++◌, drop, map}
use Rattle.policy.specs.Ranges.{texts}
use Rattle.policy.specs.Values.{policy_view}
use Rattle.policy_review.specs.Values.{warning_view}
use Rattle.policy_review.specs.Warnings.{entry_warnings}
use Rattle.policy_review.proofs.warning_list.push_entries.Given as goal

-- the warnings so far, and those of the entries still to come
abbrev pub invariant-loop-entry : goal.invariant-loop-entry
invariant-loop-entry l =
    map warning_view l.found.items ++ entry_warnings (policy_view l.policy) l.row l.doubt (texts (drop l.entry-index l.entries))
    ≡ map warning_view l.fn.found.items ++ entry_warnings (policy_view l.policy) l.row l.doubt (texts l.entries)
