use Rattle.std.proofs.Common.{length, take, drop, arith, length-drop, length-take, sym, subst}
use Rattle.std.proofs.Math.Seq.{take-add}
use Rattle.std.proofs.lemmas.List.{take_all}
use Rattle.chunks.specs.Intakes.{Advances}
use Rattle.chunks.proofs.Cutting.{keeps_nothing, count_then, advances_then, keeps_after}
use Rattle.chunks.proofs.intake.Intake.fill_all.Goals as goal

pub returns-then-len-ge-CHUNK-clause-keeps : goal.returns-then-len-ge-CHUNK-clause-keeps
returns-then-len-ge-CHUNK-clause-keeps g c = keeps_nothing g.S.State c.args.store.now c.args.self.now (length c.args.piece.now)

pub pieces-preserved : goal.pieces-preserved
pieces-preserved g c =
    let piece = c.args.piece.now in
    let inv = c.pieces.invariant in
    let fill = c.in_ok-at.ensures in
    let rest = length-drop c.pieces.at piece in
    let gone = length-take c.pieces.at piece in
    let went = rw c.rest_of.ensures at fill.advances in
    record {
      within = let some = rw c.rest_of.ensures at fill.some.1 in omega (arith, some, rest, inv.within);
      short = fill.short;
      same = count_then c.args.self.now c.pieces.self c.fill.new.self inv.same fill.same;
      advances = subst (Advances g.S.State c.args.store.now c.args.self.now c.fill.new.store c.fill.new.self) (sym (take-add c.pieces.at c.in_ok-at.field-0 piece))
          (advances_then g.S.State c.args.store.now c.pieces.store c.fill.new.store c.args.self.now c.pieces.self c.fill.new.self (take c.pieces.at piece) (take c.in_ok-at.field-0 (drop c.pieces.at piece)) inv.keeps.ready inv.advances went);
      keeps = keeps_after g.S.State c.args.store.now c.pieces.store c.fill.new.store c.args.self.now c.pieces.self (take c.pieces.at piece) (length piece) (length (drop c.pieces.at piece)) (omega (arith, rest, gone, inv.within)) inv.keeps inv.advances (rw c.rest_of.ensures at fill.keeps);
    }

pub returns-in_err-at-clause-same : goal.returns-in_err-at-clause-same
returns-in_err-at-clause-same g c = count_then c.args.self.now c.pieces.self c.fill.new.self c.pieces.invariant.same c.fill.ensures.same

pub returns-in_err-at-clause-keeps : goal.returns-in_err-at-clause-keeps
returns-in_err-at-clause-keeps g c =
    let piece = c.args.piece.now in
    let inv = c.pieces.invariant in
    let rest = length-drop c.pieces.at piece in
    let gone = length-take c.pieces.at piece in
    keeps_after g.S.State c.args.store.now c.pieces.store c.fill.new.store c.args.self.now c.pieces.self (take c.pieces.at piece) (length piece) (length (drop c.pieces.at piece)) (omega (arith, rest, gone, inv.within)) inv.keeps inv.advances (rw c.rest_of.ensures at c.fill.ensures.keeps)

pub returns-clause-advances : goal.returns-clause-advances
returns-clause-advances g c =
    let all = take_all c.pieces.at c.args.piece.now (omega (arith, c.pieces-test.false)) in
    subst (Advances g.S.State c.args.store.now c.args.self.now c.pieces.store c.pieces.self) all c.pieces.invariant.advances

pub returns-clause-keeps : goal.returns-clause-keeps
returns-clause-keeps g c = c.pieces.invariant.keeps
