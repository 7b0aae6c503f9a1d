use Rattle.service.proofs.Prelude.{refl, from_weaker}
use Rattle.desk.proofs.Staying.{keeps_within}
use Rattle.service.proofs.Uploads.{piece_taken}
use Rattle.service.proofs.underway.Upload.take.Goals as goal

pub returns-clause-taken : goal.returns-clause-taken
returns-clause-taken g c =
    from_weaker g.S.State c.args.store.now c.take.new.store _ _
    (λ world done bytes under.
    piece_taken g.S.State c.args.store.now c.take.new.store c.args.self.now _ bytes c.args.piece.now world c.take.result refl refl c.take.ensures.size done under)
    c.take.ensures.taken

pub returns-clause-bounded : goal.returns-clause-bounded
returns-clause-bounded g c =
    from_weaker g.S.State c.args.store.now c.take.new.store _ _
    (λ world done bytes under policy. keeps_within g.S.State c.args.store.now c.take.new.store policy world (done bytes under).0)
    (returns-clause-taken g c)
