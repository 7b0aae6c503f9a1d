use Rattle.placed.proofs.Prelude.{ap, sym, ◌∙◌, option_map}
use Rattle.placed.proofs.ChunkRead.{err_behind, failed_read, failed_last, row_read, nothing_read, piece_read}
use Rattle.placed.proofs.calls.PlacedStore.chunk.Goals as goal
use Rattle.placed.proofs.Keeping.{file_itself}

pub returns-in-Some : goal.returns-in-Some
returns-in-Some g c =
    row_read g.T.State g.D.Disk _ c.args.upload c.args.n c.if-n-eq-PLACE_NUMBER.false _ _ c.in-Some.chunk c.in_ok-chunk.ensures c.in-Some.is

pub returns-in_err-chunk : goal.returns-in_err-chunk
returns-in_err-chunk g c =
    failed_read g.T.State g.D.Disk _ _ _ _ (err_behind _ c.from_residual.ensures.0) c.chunk.ensures.same c.chunk.ensures.adds

pub returns-in_err-region : goal.returns-in_err-region
returns-in_err-region g c =
    failed_last g.T.State g.D.Disk _ _ c.region_of.new.self c.region_of.ensures.rest c.chunk.ensures.same c.chunk.ensures.adds
    c.region_of.ensures.reads.same c.region_of.ensures.reads.adds c.region_of.new.self.disk (file_itself g.D.Disk _) _ _
    (err_behind _ c.from_residual-in_err-region.ensures.0)

pub returns-in_default-2 : goal.returns-in_default-2
returns-in_default-2 g c =
    nothing_read g.T.State g.D.Disk _ c.args.upload c.args.n c.if-n-eq-PLACE_NUMBER.false _ c.region_of.new.self c.region_of.ensures.rest _ _
    c.in_ok-chunk.ensures c.in_default.is c.in_ok-region.ensures.reads c.in_default-2.is

pub returns-in_err-bytes : goal.returns-in_err-bytes
returns-in_err-bytes g c =
    failed_last g.T.State g.D.Disk _ _ c.region_of.new.self c.region_of.ensures.rest c.chunk.ensures.same c.chunk.ensures.adds
    c.region_of.ensures.reads.same c.region_of.ensures.reads.adds _ c.read_piece.ensures.same _ _ (err_behind _ c.from_residual-in_err-bytes.ensures.0)

pub returns-in-Some-3 : goal.returns-in-Some-3
returns-in-Some-3 g c =
    piece_read g.T.State g.D.Disk _ c.args.upload c.args.n c.if-n-eq-PLACE_NUMBER.false _ c.region_of.new.self c.region_of.ensures.rest _ _
    c.in_ok-chunk.ensures c.in_default.is c.in_ok-region.ensures.reads c.in-Some-2.region c.in-Some-2.is _ c.read_piece.ensures.same _
    (λ clean content has. ap (option_map (λ v. v.items)) (sym c.in-Some-3.is) ∙ c.in_ok-bytes.ensures.read clean content has)

pub returns-in-None : goal.returns-in-None
returns-in-None g c =
    piece_read g.T.State g.D.Disk _ c.args.upload c.args.n c.if-n-eq-PLACE_NUMBER.false _ c.region_of.new.self c.region_of.ensures.rest _ _
    c.in_ok-chunk.ensures c.in_default.is c.in_ok-region.ensures.reads c.in-Some-2.region c.in-Some-2.is _ c.read_piece.ensures.same _
    (λ clean content has. ap (option_map (λ v. v.items)) (sym c.in-None.is) ∙ c.in_ok-bytes.ensures.read clean content has)
