use Rattle.policy.proofs.Prelude.{texts}
use Rattle.policy.proofs.Rights.{is_count-rights_named}
use Rattle.policy.proofs.reading.read_row.Goals as goal

pub invariant_of-result-clause-users_in_range : goal.invariant_of-result-clause-users_in_range
invariant_of-result-clause-users_in_range c = rw (← c.deref.ensures.value) c.in_ok-check_texts.ensures

pub invariant_of-result-clause-repos_in_range : goal.invariant_of-result-clause-repos_in_range
invariant_of-result-clause-repos_in_range c = rw (← c.deref-2.ensures.value) c.in_ok-check_texts-2.ensures

pub invariant_of-result-clause-refs_in_range : goal.invariant_of-result-clause-refs_in_range
invariant_of-result-clause-refs_in_range c = rw (← c.deref-3.ensures.value) c.in_ok-check_texts-3.ensures

pub invariant_of-result-clause-paths_in_range : goal.invariant_of-result-clause-paths_in_range
invariant_of-result-clause-paths_in_range c = rw (← c.deref-4.ensures.value) c.in_ok-check_texts-4.ensures

pub invariant_of-result-clause-rights_in_range : goal.invariant_of-result-clause-rights_in_range
invariant_of-result-clause-rights_in_range c =
    rw c.in_ok-rights_named.ensures
    (is_count-rights_named (texts c.deref-6.result.now) (rw (c.deref-6.ensures.value, ← c.deref-5.ensures.value) c.in_ok-check_texts-5.ensures))
