use Rattle.placed.proofs.Prelude.{false}
use Rattle.placed.proofs.Fresh.{fresh_tables, fresh_shown}
use Rattle.placed.proofs.placed.Placed.new.Goals as goal

pub returns-clause-tables : goal.returns-clause-tables
returns-clause-tables g c h none =
    fresh_tables g.T.State g.D.Disk
    (record { rows = c.args.rows; disk = c.args.disk; regions = c.new.result; staged = c.new-2.result; unsynced = 0; has_lost = false; alloc = c.args.alloc }) c.new-2.ensures.items none h

pub returns-clause-shown : goal.returns-clause-shown
returns-clause-shown g c h none k o =
    fresh_shown g.T.State g.D.Disk
    (record { rows = c.args.rows; disk = c.args.disk; regions = c.new.result; staged = c.new-2.result; unsynced = 0; has_lost = false; alloc = c.args.alloc }) c.new-2.ensures.items none h k o
