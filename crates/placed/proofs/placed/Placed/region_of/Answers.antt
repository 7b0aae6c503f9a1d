use Rattle.placed.proofs.Prelude.{Some, None, sym, ap, ◌∙◌, region_in}
use Rattle.placed.proofs.Located.{located_at, located_staged, located_none, reads_as}
use Rattle.placed.proofs.placed.Placed.region_of.Goals as goal

pub returns-in-Some-clause-reads : goal.returns-in-Some-clause-reads
returns-in-Some-clause-reads g c =
    reads_as g.T.State _ _ c.in_ok-place.place (Some c.in-Some.region) _ _
    (λ t says. located_at c.args.upload _ t c.in_ok-place.place c.in-Some-None.place c.in-Some.region says c.in-Some-None.is-0
    (ap region_in (sym c.bytes.ensures) ∙ sym c.region_in.ensures ∙ c.in-Some.is)
    (rw c.deref.ensures.value at c.in-Some-None.ensures.none))
    c.in_ok-place.ensures

pub returns-in-None-Some-clause-reads : goal.returns-in-None-Some-clause-reads
returns-in-None-Some-clause-reads g c =
    let found = rw c.deref.ensures.value at c.in-None-Some.ensures.some in
    reads_as g.T.State _ _ c.in_ok-place.place (Some c.written.result) _ _
    (λ t says. located_staged c.args.upload _ t c.in_ok-place.place c.in-None-Some.index c.index.result.now _ says c.in-None-Some.is-0
    found.0 found.1 c.index.ensures c.written.ensures)
    c.in_ok-place.ensures

pub returns-clause-reads : goal.returns-clause-reads
returns-clause-reads g c =
    reads_as g.T.State _ _ c.in_ok-place.place None _ _
    (λ t says. located_none c.args.upload _ t c.in_ok-place.place says c.in-None-None.is-0
    (rw c.deref.ensures.value at c.in-None-None.ensures.none))
    c.in_ok-place.ensures
