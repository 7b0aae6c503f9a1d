-- The content at the index that was found is shorter, and without one nothing changes.
use Rattle.placed.proofs.Prelude.{◌≡◌, ◌≢◌, ◌<◌, length, subst, All, HoldsAt}
use Rattle.placed.proofs.Shortened.{shortened_at, none_shortened}
use Rattle.placed.proofs.receiving.truncate.Goals as goal

pub returns-in-Some : goal.returns-in-Some
returns-in-Some c =
    let index = c.in-Some.index in
    let found = subst (λ it. (index < length it) × HoldsAt (λ s. s.id ≡ c.args.id) it index) c.deref.ensures.value
    c.in-Some.ensures.some in
    shortened_at c.args.staged.now.items index c.args.len c.args.id c.index_mut.result.now c.truncate.new.self
    found.0 found.1 c.index_mut.ensures.value c.truncate.ensures.region c.truncate.ensures.written

pub returns-in_default : goal.returns-in_default
returns-in_default c =
    none_shortened c.args.staged.now.items c.args.len c.args.id
    (subst (λ it. All (λ s. s.id ≢ c.args.id) it) c.deref.ensures.value c.in_default.ensures.none)
