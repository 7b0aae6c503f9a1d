use Rattle.std.proofs.Common.{arith, ◌∙◌, ◌/◌}
use Rattle.std.proofs.lemmas.Int.{ints}
use Rattle.jiff.proofs.SpanFacts.{signed_arith, date_add-days, can_add-days}
use Rattle.names.proofs.Days.{epoch_is_day_0, later_year}
use Rattle.names.proofs.civil.date_of.Goals as goal

pub add-requires : goal.add-requires
add-requires c =
    let zero = epoch_is_day_0 c.date.result c.date.ensures in
    let can = can_add-days c.date.result _ c.days.result c.days.ensures in
    can.1 (omega (arith, signed_arith, ints, zero))

pub returns-clause-day : goal.returns-clause-day
returns-clause-day c =
    let zero = epoch_is_day_0 c.date.result c.date.ensures in
    c.add.ensures ∙ date_add-days c.date.result _ c.days.result c.days.ensures ∙ omega (arith, signed_arith, ints, zero)

pub returns-clause-year : goal.returns-clause-year
returns-clause-year c =
    later_year c.add.result (c.args.second / 86400) (returns-clause-day c)
