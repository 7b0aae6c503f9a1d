use Rattle.routes.proofs.Inserts.{never-refused, is-placed}
use Rattle.routes.proofs.table.add.Goals as goal

pub unreachable-requires : goal.unreachable-requires
unreachable-requires c =
    never-refused c.pattern.result.now c.args.resource c.args.router.now c.insert.new.self c.in-Err.error c.pattern.ensures c.requires c.in-Err.ensures c.in_default.not-OutOfMemory

pub returns-in-Ok : goal.returns-in-Ok
returns-in-Ok c =
    is-placed c.pattern.result.now c.args.resource c.args.router.now c.insert.new.self c.in-Ok.field-0 c.pattern.ensures c.in-Ok.ensures
