use Rattle.std.proofs.Common.{◌≡◌, ◌+◌, refl, rules}
use Rattle.chunks.proofs.Cutting.{keeps_nothing, chunk_kept, chunk_advances}
use Rattle.chunks.proofs.intake.Intake.write_chunk.Goals as goal

pub returns-in_default-clause-keeps : goal.returns-in_default-clause-keeps
returns-in_default-clause-keeps g c = keeps_nothing g.S.State c.args.store.now c.args.self.now 0

pub returns-in_err-add_chunk-clause-keeps : goal.returns-in_err-add_chunk-clause-keeps
returns-in_err-add_chunk-clause-keeps g c =
    chunk_kept g.S.State c.args.store.now c.add_chunk.new.self c.args.self.now c.add_chunk.result (rw c.as_slice.ensures.value at c.add_chunk.ensures.made) (rw c.as_slice.ensures.value at c.add_chunk.ensures.failed)

pub returns-clause-advances : goal.returns-clause-advances
returns-clause-advances g c full =
    let made = rw c.as_slice.ensures.value at c.in_ok-add_chunk.ensures.made in
    let next : c.in-Some.next ≡ c.args.self.now.written + 1 = search rules in
    chunk_advances g.S.State c.args.store.now c.add_chunk.new.self c.args.self.now (record c.args.self.now { last = c.clear.new.self; written = c.in-Some.next }) made refl next c.clear.ensures.items full

pub returns-clause-keeps : goal.returns-clause-keeps
returns-clause-keeps g c =
    chunk_kept g.S.State c.args.store.now c.add_chunk.new.self c.args.self.now c.add_chunk.result (rw c.as_slice.ensures.value at c.add_chunk.ensures.made) (rw c.as_slice.ensures.value at c.add_chunk.ensures.failed)
