use Rattle.cursor.proofs.Prelude.{◌∙◌, sym, ap, user_text, is_owned}
use Rattle.cursor.proofs.Parted.{moves, stays}
use Rattle.cursor.proofs.splitting.part.Goals as goal
use Rattle.cursor.proofs.splitting.part.Goals.{then-is_owned, else-is_owned}

pub loop-i-preserved : goal.loop-i-preserved
loop-i-preserved c =
    let inv = c.loop-i.invariant in
    let test = is_owned (user_text c.args.user.now) in
    elim c.if-is_owned.branch [
      | then-is_owned w ↦
          moves test c.args.rows.now c.loop-i.rows c.if-is_owned.rows w.rotate_right.new.self c.loop-i.i c.loop-i.owned c.if-is_owned.owned c.index-rows-i.result
          c.loop-i-test.true inv.0 inv.1 inv.2 c.index-rows-i.is (ap test c.index-rows-i.is ∙ sym c.is_owned.ensures ∙ w.if-is_owned.true) w.rows-is w.rotate_right.ensures.after w.owned-is
      | else-is_owned w ↦
          stays test c.args.rows.now c.loop-i.rows c.if-is_owned.rows c.loop-i.i c.loop-i.owned c.if-is_owned.owned c.index-rows-i.result
          c.loop-i-test.true inv.0 inv.1 inv.2 c.index-rows-i.is (ap test c.index-rows-i.is ∙ sym c.is_owned.ensures ∙ w.if-is_owned.false) w.rows-is w.owned-is
    ]
