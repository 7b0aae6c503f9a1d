use Rattle.policy.proofs.Prelude.{◌≡◌, ◌++◌, drop, texts, rights_named}
use Rattle.policy.proofs.reading.rights_named.Given as goal

-- the rights so far, and the names still to come
abbrev pub invariant-loop-name : goal.invariant-loop-name
invariant-loop-name l =
    rights_named (texts l.names) ≡ l.rights.items ++ rights_named (texts (drop l.name-index l.names))
