use Rattle.desk.proofs.Prelude.{rules}
use Rattle.std.proofs.lemmas.Iterator.{YieldsList-from_slice, YieldsList-from_map_by}
use Rattle.std.proofs.lemmas.Iterator.Consumers.{map_from_collect}
use Rattle.desk.specs.Views.{own_of, own_seen}
use Rattle.desk.proofs.viewing.tokens_from.Goals as goal

pub returns : goal.returns
returns c =
    map_from_collect _ c.collect.ensures.ran (YieldsList-from_map_by _ own_seen own_of (YieldsList-from_slice c.args.rows.now cc) c.map.ensures.closure (λ row shown q k. search rules))
