-- The places are those of the rows that were found, so they are good only if the rows pass.
use Rattle.std.proofs.Common.{map, subst, sym, ◌∙◌, arith}
use Rattle.std.proofs.lemmas.Result.{err_from_is_err_and}
use Rattle.tables.specs.Staging.{upload_number}
use Rattle.placed.proofs.Named.{are_taken, found_rows, good_apart, good_end, good_named, good_uploads}
use Rattle.placed.specs.Opening.{AreNamed}
use Rattle.placed.proofs.Sorting.{AreDifferent}
use Rattle.placed.proofs.opening.read_places.Goals as goal

pub returns-then-not-branch-clause-faults : goal.returns-then-not-branch-clause-faults
returns-then-not-branch-clause-faults g c = λ bad honest clean h good.
    let is = found_rows g.T.State _ _ _ c.in_ok-found.ensures honest h c.deref.result.now c.deref.ensures.value in
    let alike = rw c.if-not-branch.true at c.in_ok-are_of_different_uploads.ensures in
    alike (good_uploads c.deref.result.now _ is _ good)

pub returns-in_err-named-clause-faults : goal.returns-in_err-named-clause-faults
returns-in_err-named-clause-faults g c =
    let p = err_from_is_err_and c.from_residual-in_err-named.result c.from_residual-in_err-named.ensures.1 in
    rw (p.1, p.2) (λ bad honest clean h good.
    let is = found_rows g.T.State _ _ _ c.in_ok-found.ensures honest h c.deref-2.result.now c.deref-2.ensures.value in
    c.in_err-named.ensures.err bad (good_named c.deref-2.result.now _ is _ good))

pub returns-in_err-regions-clause-faults : goal.returns-in_err-regions-clause-faults
returns-in_err-regions-clause-faults g c =
    let p = err_from_is_err_and c.from_residual-in_err-regions.result c.from_residual-in_err-regions.ensures.1 in
    rw (p.1, p.2) (λ bad honest clean h good.
    let is = found_rows g.T.State _ _ _ c.in_ok-found.ensures honest h c.deref-2.result.now c.deref-2.ensures.value in
    let named = subst (AreNamed c.deref-2.result.now) (sym c.deref_mut.ensures.value) c.in_ok-named.ensures.ok in
    c.in_err-regions.ensures.err bad named.are (good_apart c.deref-2.result.now _ is _ good c.deref_mut.result.now named))

pub returns-in-Ok-clause-taken : goal.returns-in-Ok-clause-taken
returns-in-Ok-clause-taken g c = λ honest h.
    let is = found_rows g.T.State _ _ _ c.in_ok-found.ensures honest h c.deref-2.result.now c.deref-2.ensures.value in
    let named = subst (AreNamed c.deref-2.result.now) (sym c.deref_mut.ensures.value) c.in_ok-named.ensures.ok in
    let different = rw c.if-not-branch.false at c.in_ok-are_of_different_uploads.ensures in (
      (c.in_ok-found.ensures.answers honest h).0,
      are_taken c.deref-2.result.now _ is c.deref_mut.result.now named c.in_ok-regions.regions c.in_ok-regions.ensures.ok
          (subst (λ l. AreDifferent (map (λ row. upload_number row.upload) l)) (c.deref.ensures.value ∙ sym c.deref-2.ensures.value) different),
    )

pub returns-in-Ok-2-clause-faults : goal.returns-in-Ok-2-clause-faults
returns-in-Ok-2-clause-faults g c = λ bad honest clean h good.
    let is = found_rows g.T.State _ _ _ c.in_ok-found.ensures honest h c.deref-2.result.now c.deref-2.ensures.value in
    let named = subst (AreNamed c.deref-2.result.now) (sym c.deref_mut.ensures.value) c.in_ok-named.ensures.ok in
    let end = good_end c.deref-2.result.now _ is _ good c.deref_mut.result.now named _ _ c.in_ok-regions.ensures.ok c.end.ensures.last in
    let len = c.in-Ok.ensures.len clean in
    let short = c.if-len-end.false in
    omega arith
