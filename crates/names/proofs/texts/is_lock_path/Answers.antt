use Rattle.std.proofs.Common.{arith, ◌≡◌, true}
use Rattle.std.specs.Str.{is_utf8}
use Rattle.std.proofs.lemmas.Str.{is_utf8-from_IsUtf8}
use Rattle.std.proofs.lemmas.Grind.{common_steps}
use Rattle.names.proofs.texts.is_lock_path.Goals as goal

pub returns-then-has_path_bytes : goal.returns-then-has_path_bytes
returns-then-has_path_bytes c =
    let utf8 : is_utf8 c.args.text.now ≡ true = is_utf8-from_IsUtf8 _ c.utf8.text in
    grind (arith, common_steps, utf8)
