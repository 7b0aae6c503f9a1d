use Rattle.wire.proofs.Prelude.{front}
use Rattle.wire.proofs.Buffers.{copied}
use Rattle.wire.proofs.buffer.Buffer.hand_out.Goals as goal

pub returns-clause-bytes : goal.returns-clause-bytes
returns-clause-bytes c =
    copied (front c.args.self.now) (front c.skip.new.self) c.unused.result.now c.copy_front-count.new.to _ c.args.self.now.at c.skip.new.self.at c.copy_front-count.result
    c.unused.ensures c.skip.ensures.front c.skip.ensures.at c.copy_front-count.ensures.within.1 c.copy_front-count.ensures.bytes
