use Rattle.policy.proofs.Prelude.{◌≡◌, map, take, texts, pattern_of, pattern_view}
use Rattle.policy.proofs.patterns.patterns_of.Given as goal

-- the texts before this one were read
abbrev pub invariant-loop-text : goal.invariant-loop-text
invariant-loop-text l = map pattern_view l.patterns.items ≡ map pattern_of (texts (take l.text-index l.spelled))
