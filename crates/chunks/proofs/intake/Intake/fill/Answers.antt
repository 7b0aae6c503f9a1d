use Rattle.std.proofs.Common.{[], ◌≡◌, take, length, refl, arith, append-nil, subst}
use Rattle.chunks.specs.Intakes.{chunk_size, Advances}
use Rattle.chunks.proofs.Cutting.{at_most, fits_in, fills, keeps_nothing, more_kept, more_advances, advances_then}
use Rattle.chunks.proofs.intake.Intake.fill.Goals as goal

pub returns-in_err-extend_from_slice-clause-keeps : goal.returns-in_err-extend_from_slice-clause-keeps
returns-in_err-extend_from_slice-clause-keeps g c = keeps_nothing g.S.State c.args.store.now c.args.self.now (length c.args.rest.now)

pub returns-in_err-write_chunk-clause-keeps : goal.returns-in_err-write_chunk-clause-keeps
returns-in_err-write_chunk-clause-keeps g c =
    let i = c.args.self.now in
    let part = take c.min-size.result c.args.rest.now in
    let len = c.if-len-eq-CHUNK.true in
    let fits = fills (c.extend_from_slice.new.self).items i.last.items part c.in_ok-extend_from_slice.ensures.items (omega (arith, len, c.len-2.ensures)) in
    more_kept g.S.State c.args.store.now c.write_chunk.new.store i (record i { last = c.extend_from_slice.new.self }) part (length c.args.rest.now) (at_most c.min-size.result c.args.rest.now) refl refl c.in_ok-extend_from_slice.ensures.items fits c.write_chunk.ensures.keeps

pub returns-in_ok-write_chunk-clause-advances : goal.returns-in_ok-write_chunk-clause-advances
returns-in_ok-write_chunk-clause-advances g c =
    let i = c.args.self.now in
    let j = record i { last = c.extend_from_slice.new.self } in
    let part = take c.min-size.result c.args.rest.now in
    let a = c.args.store.now in
    let b = c.write_chunk.new.store in
    let len = c.if-len-eq-CHUNK.true in
    let full : length j.last.items ≡ chunk_size = omega (arith, len, c.len-2.ensures) in
    let fits = fills j.last.items i.last.items part c.in_ok-extend_from_slice.ensures.items full in
    subst (Advances g.S.State a i b c.write_chunk.new.self) (append-nil part)
    (advances_then g.S.State a a b i j c.write_chunk.new.self part [] (λ h. h) (more_advances g.S.State a i j part refl refl c.in_ok-extend_from_slice.ensures.items fits) (c.in_ok-write_chunk.ensures.advances full))

pub returns-in_ok-write_chunk-clause-keeps : goal.returns-in_ok-write_chunk-clause-keeps
returns-in_ok-write_chunk-clause-keeps g c =
    let i = c.args.self.now in
    let part = take c.min-size.result c.args.rest.now in
    let len = c.if-len-eq-CHUNK.true in
    let fits = fills (c.extend_from_slice.new.self).items i.last.items part c.in_ok-extend_from_slice.ensures.items (omega (arith, len, c.len-2.ensures)) in
    more_kept g.S.State c.args.store.now c.write_chunk.new.store i (record i { last = c.extend_from_slice.new.self }) part (length c.args.rest.now) (at_most c.min-size.result c.args.rest.now) refl refl c.in_ok-extend_from_slice.ensures.items fits c.write_chunk.ensures.keeps

pub returns-else-len-eq-CHUNK-clause-advances : goal.returns-else-len-eq-CHUNK-clause-advances
returns-else-len-eq-CHUNK-clause-advances g c =
    let i = c.args.self.now in
    let fits = fits_in i.last.items c.args.rest.now c.min-size.result (omega (arith, c.requires, c.len.ensures, c.min-size.ensures)) in
    more_advances g.S.State c.args.store.now i (record i { last = c.extend_from_slice.new.self }) (take c.min-size.result c.args.rest.now) refl refl c.in_ok-extend_from_slice.ensures.items fits

pub returns-else-len-eq-CHUNK-clause-keeps : goal.returns-else-len-eq-CHUNK-clause-keeps
returns-else-len-eq-CHUNK-clause-keeps g c = keeps_nothing g.S.State c.args.store.now c.args.self.now (length c.args.rest.now)
