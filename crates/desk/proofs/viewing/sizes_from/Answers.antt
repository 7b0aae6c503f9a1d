use Rattle.desk.proofs.Prelude.{rules}
use Rattle.std.proofs.lemmas.Iterator.{YieldsList-from_slice, YieldsList-from_map_by}
use Rattle.std.proofs.lemmas.Iterator.Consumers.{map_from_collect}
use Rattle.desk.specs.Views.{size_of_row, size_seen}
use Rattle.desk.proofs.viewing.sizes_from.Goals as goal

pub returns : goal.returns
returns c =
    map_from_collect _ c.collect.ensures.ran (YieldsList-from_map_by _ size_seen size_of_row (YieldsList-from_slice c.args.rows.now cc) c.map.ensures.closure (λ row shown q k. search rules))
