use Rattle.std.specs.Io.KnownBytes.{Consumes}
use Rattle.std.proofs.Common.{◌≡◌, ℕ, [], ◌∷◌, subst, sym}
use Rattle.std.proofs.KnownBytes.{Consumes-trans}
use Rattle.control.specs.Fields.{field}
use Rattle.control.specs.Replies.{stream_code}
use Rattle.cli.proofs.via.Printing.print_frame.Goals as goal

pub returns-clause-frame : goal.returns-clause-frame
returns-clause-frame g c =
    let content = c.in_ok-content.content.items in
    let byte = c.in_ok-read_byte.field-0 in
    let left = g.R.Source.left c.args.source.now in
    let rest = g.R.Source.left c.read_content.new.source in
    let code : stream_code c.in-Piece.stream ≡ byte = rw c.in-Piece.is at c.in-Some.ensures.some in (
      record { stream = c.in-Piece.stream; content = content },
      c.in_ok-content.ensures.size,
      subst (λ (first : ℕ). Consumes left rest (first ∷ field content)) (sym code) (Consumes-trans left (g.R.Source.left c.read_byte.new.source) rest (byte ∷ []) (field content) c.in_ok-read_byte.ensures.byte c.in_ok-content.ensures.bytes),
      rw c.as_slice.ensures.value at c.in_ok-print_piece.ensures.printed,
    )
