-- Two rows are of one upload exactly if two neighbours are, once the uploads are sorted.
use Rattle.std.proofs.Common.{rules, ◌≡◌, MatchBool, subst}
use Rattle.std.specs.List.{IsAllAdjacentAnswer}
use Rattle.std.proofs.lemmas.List.Sorted.{answers_always}
use Rattle.placed.proofs.Sorting.{is_below, different_if, AreDifferent}
use Rattle.placed.proofs.opening.are_of_different_uploads.Goals as goal

pub returns : goal.returns
returns c =
    let told = c.is_sorted_by.ensures.cases is_below (answers_always _ _ _ (λ f a r q k. search rules)) in
    subst (λ l. MatchBool c.is_sorted_by.result (AreDifferent l) (AreDifferent l → ⊥)) c.in_ok-uploads.ensures
    (different_if c.in_ok-uploads.uploads.items c.sort_unstable.new.self.items c.sort_unstable.ensures.permutation
    c.sort_unstable.ensures.sorted c.is_sorted_by.result
    (subst (λ l. IsAllAdjacentAnswer (λ a b r. r ≡ is_below a b) l c.is_sorted_by.result) c.deref.ensures.value told))
