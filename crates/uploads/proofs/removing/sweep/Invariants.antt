use Rattle.uploads.proofs.Prelude.{drop, length, From}
use Rattle.uploads.proofs.Swept.{IsSwept}
use Rattle.uploads.proofs.removing.sweep.Given as goal

abbrev pub invariant-loop-upload : goal.invariant-loop-upload
invariant-loop-upload g l =
    From g.S.State l.fn.store l.store (λ world. IsSwept g.S.State world l.fn.store l.store (length l.upload-items) (drop l.upload-index l.upload-items))
