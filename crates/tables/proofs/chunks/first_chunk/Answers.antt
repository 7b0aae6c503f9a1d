use Rattle.tables.proofs.Prelude.{rules}
use Rattle.tables.proofs.Lent.{none_lent, first_lent}
use Rattle.tables.proofs.chunks.first_chunk.Goals as goal

pub returns-then-is_empty : goal.returns-then-is_empty
returns-then-is_empty c chunks all = none_lent c.args.rows.items chunks all (search rules)

pub returns : goal.returns
returns c chunks all = first_lent c.args.rows.items chunks c.remove.result all (search rules) c.remove.ensures.value
