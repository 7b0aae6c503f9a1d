use Rattle.std.proofs.Common.{refl}
use Rattle.server.proofs.Growing.{grown}
use Rattle.server.proofs.pieces.Pieces.push.Goals as goal

pub invariant_of-self : goal.invariant_of-self
invariant_of-self c = record {
  are_pieces = grown c.args.self.now.bytes.items c.as_slice.result.now c.extend_from_slice-3.new.self.items _ (record { stream = c.args.stream; content = c.args.content.now }) c.requires
      (rw (c.as_slice.ensures.value, c.in_ok-extend_from_slice-2.ensures.items, c.in_ok-extend_from_slice.ensures.items, c.new-piece.ensures.items, c.piece_head.ensures) refl)
      c.extend_from_slice-3.ensures.items c.args.self.now.are_pieces;
}
