use Rattle.policy.proofs.Prelude.{◌≡◌, ◌++◌, drop, map, option_map, view, texts}
use Rattle.policy.specs.Language.{all_texts}
use Rattle.policy.proofs.tables.copied_texts.Given as goal

-- the copies so far, and the values still to come
abbrev pub invariant-loop-value : goal.invariant-loop-value
invariant-loop-value l =
    all_texts (map view l.values)
    ≡ option_map (λ more. texts l.copies.items ++ more) (all_texts (map view (drop l.value-index l.values)))
