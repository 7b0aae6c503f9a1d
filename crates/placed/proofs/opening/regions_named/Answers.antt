-- Each row that was gone through names its region.
use Rattle.std.proofs.Common.{rules, ◌≡◌, [], ◌∷◌, ◌++◌, sym, subst}
use Rattle.placed.specs.Opening.{AreNamed, IsNamed}
use Rattle.placed.proofs.Named.{named_next}
use Rattle.placed.proofs.opening.regions_named.Goals as goal

pub returns-in_default-clause-err : goal.returns-in_default-clause-err
returns-in_default-clause-err c = λ bad named.
    let it = named c.loop-row.row-index c.row-item.result c.loop-row-test.true in
    c.in_default.ensures.none it.0 (subst (λ row. IsNamed row.bytes.items it.0) (sym c.row-item.is) it.1)

pub loop-row-preserved : goal.loop-row-preserved
loop-row-preserved c =
    let pushed : c.push.new.self.items ≡ c.loop-row.regions.items ++ c.in-Some.region ∷ [] = search rules in
    subst (AreNamed _) (sym pushed)
    (named_next c.args.rows.now c.loop-row.row-index c.row-item.result c.loop-row.regions.items c.in-Some.region c.loop-row-test.true
    c.row-item.is c.loop-row.invariant c.in-Some.ensures.some)
