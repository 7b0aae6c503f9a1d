use Rattle.std.proofs.Common.{arith}
use Rattle.std.proofs.lemmas.Grind.{common_steps}
use Rattle.names.proofs.Digits.{hex_is_utf8}
use Rattle.names.proofs.objects.Oid.text.Goals as goal

pub unwrap-requires : goal.unwrap-requires
unwrap-requires c =
    let utf8 = hex_is_utf8 c.self.inside.digits c.self.invariant in
    grind (arith, common_steps, utf8)
