use Rattle.cursor.proofs.Walked.{walks_rise, walks_hold_once, walks_miss_none}
use Rattle.cursor.proofs.walks.walk_law.Goals as goal

pub returns-clause-rise : goal.returns-clause-rise
returns-clause-rise c = walks_rise

pub returns-clause-once : goal.returns-clause-once
returns-clause-once c = walks_hold_once

pub returns-clause-none : goal.returns-clause-none
returns-clause-none c = walks_miss_none
