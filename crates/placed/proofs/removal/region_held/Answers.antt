use Rattle.placed.proofs.Prelude.{ap, ◌∙◌, region_in}
use Rattle.placed.proofs.Located.{finds_received, finds_place, finds_nothing}
use Rattle.placed.proofs.removal.region_held.Goals as goal

pub returns-in-Some-index_of : goal.returns-in-Some-index_of
returns-in-Some-index_of g c =
    let found = c.in-Some-index_of.ensures.some in
    let found = c.in-Some-index_of.ensures.some in
    finds_received c.in-Some.id c.args.staged.now g.T.State c.args.rows.now c.args.upload c.in-Some.is
    c.in-Some-index_of.index _ c.region.result found.0 found.1 c.region.ensures

pub returns-in-Some-2 : goal.returns-in-Some-2
returns-in-Some-2 g c =
    finds_place c.in-Some.id c.args.staged.now g.T.State c.args.rows.now c.args.upload c.in-Some.is
    c.chunk.new.self _ c.in_ok-place.ensures c.in_default-index_of.ensures.none c.in-Some-2.place c.in-Some-2.is c.region_in.result
    (c.region_in.ensures ∙ ap region_in c.bytes.ensures)

pub returns-in-None : goal.returns-in-None
returns-in-None g c =
    finds_nothing c.in-Some.id c.args.staged.now g.T.State c.args.rows.now c.args.upload c.in-Some.is
    c.chunk.new.self _ c.in_ok-place.ensures c.in_default-index_of.ensures.none c.in-None.is
