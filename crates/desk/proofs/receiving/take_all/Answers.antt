use Rattle.desk.proofs.Prelude.{◌++◌, ◌∙◌, [], take, rules, refl, err_from_is_err_and}
use Rattle.desk.proofs.Arriving.{read_none, read_more, read_piece, takes_none, takes_failed, takes_more, takes_refused}
use Rattle.desk.proofs.receiving.take_all.Goals as goal

pub pieces-init : goal.pieces-init
pieces-init g c = record {
  bytes = [];
  read = read_none g.B.Body c.args.content.now c.args.content.now (g.met.B.Body.moves_none c.args.content.now) refl;
  good = refl;
  room = search rules;
  upload = refl;
  takes = takes_none g.S.State c.args.store.now c.args.intake.now;
}

pub pieces-preserved : goal.pieces-preserved
pieces-preserved g c =
    let i = c.pieces.invariant in
    let read = c.in_ok-count.ensures in
    let piece = take c.in_ok-count.count c.piece.new.piece in
    let push = c.in_ok-push.ensures in
    record {
      bytes = i.bytes ++ piece;
      read = read_more g.B.Body g.met.B.Body.moves_on c.args.content.now c.pieces.content c.piece.new.self i.bytes piece i.read
          (read_piece g.B.Body c.pieces.content c.piece.new.self c.in_ok-count.count c.piece.new.piece read.within.0 read.within.1 read.bytes);
      good = search rules;
      room = search rules;
      upload = push.upload ∙ i.upload;
      takes = takes_more g.S.State c.args.store.now c.args.intake.now c.pieces.store c.push.new.store c.pieces.intake c.push.new.self i.bytes i.takes push.kept c.front.result.now piece c.front.ensures push.taken;
    }

pub returns-in_err-count-clause-bytes : goal.returns-in_err-count-clause-bytes
returns-in_err-count-clause-bytes g c =
    let i = c.pieces.invariant in
    let p = err_from_is_err_and c.from_residual.result c.from_residual.ensures.1 in
    let err = c.in_err-count.ensures.err in
    rw p.1 (
      i.bytes ++ [],
      read_more g.B.Body g.met.B.Body.moves_on c.args.content.now c.pieces.content c.piece.new.self i.bytes [] i.read (read_none g.B.Body c.pieces.content c.piece.new.self err.0 err.1),
      takes_failed g.S.State c.args.store.now c.args.intake.now c.pieces.store c.pieces.intake i.bytes (i.bytes ++ []) p.0 i.takes,
    )

pub returns-in_err-push-clause-bytes : goal.returns-in_err-push-clause-bytes
returns-in_err-push-clause-bytes g c =
    let i = c.pieces.invariant in
    let p = err_from_is_err_and c.from_residual-in_err-push.result c.from_residual-in_err-push.ensures.1 in
    let read = c.in_ok-count.ensures in
    let piece = take c.in_ok-count.count c.piece.new.piece in
    rw p.1 (
      i.bytes ++ piece,
      read_more g.B.Body g.met.B.Body.moves_on c.args.content.now c.pieces.content c.piece.new.self i.bytes piece i.read
          (read_piece g.B.Body c.pieces.content c.piece.new.self c.in_ok-count.count c.piece.new.piece read.within.0 read.within.1 read.bytes),
      takes_refused g.S.State c.args.store.now c.args.intake.now c.pieces.store c.push.new.store c.pieces.intake c.push.new.self i.bytes i.takes c.in_err-push.ensures.kept (i.bytes ++ piece) p.0,
    )
