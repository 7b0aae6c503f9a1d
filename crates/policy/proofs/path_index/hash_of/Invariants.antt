use Rattle.policy.proofs.Prelude.{◌≡◌, take}
use Rattle.policy.specs.Index.{hashed}
use Rattle.policy.proofs.path_index.hash_of.Given as goal

-- the hash is that of the bytes before this one
abbrev pub invariant-loop-byte : goal.invariant-loop-byte
invariant-loop-byte l = l.hash ≡ hashed 0 (take l.byte-index l.text)
