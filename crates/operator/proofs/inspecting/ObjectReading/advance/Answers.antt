use Rattle.operator.proofs.Damaged.{reads_on}
use Rattle.operator.proofs.inspecting.ObjectReading.advance.Goals as goal

pub returns-in_err-chunk : goal.returns-in_err-chunk
returns-in_err-chunk g c = reads_on g.S.State c.args.store.now c.chunks.store c.chunk.new.self c.chunks.invariant c.chunk.ensures.same c.chunk.ensures.adds

pub returns-in_default : goal.returns-in_default
returns-in_default g c = reads_on g.S.State c.args.store.now c.chunks.store c.chunk.new.self c.chunks.invariant c.chunk.ensures.same c.chunk.ensures.adds

pub chunks-preserved : goal.chunks-preserved
chunks-preserved g c = reads_on g.S.State c.args.store.now c.chunks.store c.chunk.new.self c.chunks.invariant c.chunk.ensures.same c.chunk.ensures.adds
