use Rattle.desk.proofs.Prelude.{ℕ, List, rules, from_weaker}
use Rattle.std.specs.Bool.{⊤}
use Rattle.desk.proofs.Arriving.{kept_none}
use Rattle.desk.proofs.Sliced.{piece_refused, piece_taken, piece_within}
use Rattle.desk.proofs.slices.Receiving.take.Goals as goal

pub returns-in_default-clause-bounded : goal.returns-in_default-clause-bounded
returns-in_default-clause-bounded g c =
    let old = c.args.store.now in
    piece_within g.S.State old old c.args.self.now {Q = λ (bytes : List ℕ). ⊤}
    (from_weaker g.S.State old old _ _ (λ world kept bytes it. (kept, tt)) (kept_none g.S.State old))

pub returns-in-Err-clause-taken : goal.returns-in-Err-clause-taken
returns-in-Err-clause-taken g c =
    let mid = c.push.new.store in
    let new = c.abandon.new.store in
    piece_refused g.S.State c.args.store.now mid c.args.self.now c.push.new.self c.args.piece.now c.in-Err.ensures.kept new
    (from_weaker g.S.State mid new _ _ (λ world it. it.0) c.abandon.ensures)

pub returns-in-Err-clause-bounded : goal.returns-in-Err-clause-bounded
returns-in-Err-clause-bounded g c =
    let mid = c.push.new.store in
    let new = c.abandon.new.store in
    piece_within g.S.State c.args.store.now new c.args.self.now
    (piece_refused g.S.State c.args.store.now mid c.args.self.now c.push.new.self c.args.piece.now c.in-Err.ensures.kept new
    (from_weaker g.S.State mid new _ _ (λ world it. it.0) c.abandon.ensures))

pub returns-clause-taken : goal.returns-clause-taken
returns-clause-taken g c =
    let push = c.in_default-push.ensures in
    piece_taken g.S.State c.args.store.now c.push.new.store c.args.self.now c.push.new.self c.args.piece.now push.kept
    c.in-Some.left (search rules) push.upload push.taken

pub returns-clause-bounded : goal.returns-clause-bounded
returns-clause-bounded g c =
    let push = c.in_default-push.ensures in
    piece_within g.S.State c.args.store.now c.push.new.store c.args.self.now
    (piece_taken g.S.State c.args.store.now c.push.new.store c.args.self.now c.push.new.self c.args.piece.now push.kept
    c.in-Some.left (search rules) push.upload push.taken)
