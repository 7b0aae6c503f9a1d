use Rattle.service.proofs.Prelude.{arith}
use Rattle.std.proofs.lemmas.List.{length-take}
use Rattle.wire.specs.declared.cut.TheConstants.{HEAD_LIMIT}
use Rattle.service.proofs.uploading.put_in.Goals as goal

pub slice_bounds-put_of-count : goal.slice_bounds-put_of-count
slice_bounds-put_of-count c =
    omega (arith, c.in-Head.ensures.cut.2.within.section.len_fits, length-take HEAD_LIMIT c.args.bytes.now)

pub slice_bounds-put_of-start : goal.slice_bounds-put_of-start
slice_bounds-put_of-start c =
    omega (arith, c.in-Head.ensures.cut.2.within.section.len_fits, length-take HEAD_LIMIT c.args.bytes.now)
