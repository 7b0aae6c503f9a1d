use Rattle.std.proofs.Common.{rules, ◌≡◌, ◌++◌, ◌∷◌, []}
use Rattle.placed.proofs.ListedKeys.{key_pushed}
use Rattle.placed.proofs.listed.push_pieces.Goals as goal

pub loop-n-preserved : goal.loop-n-preserved
loop-n-preserved c =
    let pushed : c.push.new.self.items ≡ c.loop-n.keys.items ++ record { upload = c.args.upload; n = c.loop-n.n } ∷ [] = search rules in
    key_pushed c.args.keys.now.items c.loop-n.keys.items c.push.new.self.items c.args.upload c.loop-n.n pushed c.loop-n.invariant
