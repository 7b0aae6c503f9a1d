use Rattle.std.specs.Prelude.{⊤}
use Rattle.std.proofs.lemmas.Result.{err_from_is_err_and}
use Rattle.refinement.proofs.ReadOnly.{reads_then}
use Rattle.server.proofs.operators.stored_in.Goals as goal

pub returns-in_err-locks_made : goal.returns-in_err-locks_made
returns-in_err-locks_made g c =
    let p = err_from_is_err_and c.from_residual-in_err-locks_made.result c.from_residual-in_err-locks_made.ensures.1 in
    rw p.1 (reads_then g.S.State _ _ _ _ _ (λ _. ⊤) (λ world laws used made. tt) c.used.ensures c.made.ensures)

pub returns : goal.returns
returns g c =
    reads_then g.S.State _ _ _ _ _ _ (λ world laws used made. (used, made)) (rw c.name.ensures at c.in_ok-used.ensures) (rw c.name-2.ensures at c.in_ok-locks_made.ensures)
