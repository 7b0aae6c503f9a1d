-- Both calls read the same tables.
use Rattle.store.proofs.Moved.{moves_then, nothing_then}
use Rattle.placed.proofs.Cleared.{chunked_read}
use Rattle.placed.proofs.opening.chunked_uploads.Goals as goal

pub returns : goal.returns
returns g c =
    let first = c.in_ok-staged.ensures in
    let second = c.in_ok-keys.ensures in
    record {
      answers = chunked_read g.T.State c.in_ok-staged.staged c.in_ok-keys.keys _ _ _ first second _ _
          c.deref.ensures.value c.deref-2.ensures.value _ c.in_ok-ids_in.ensures;
      same = moves_then g.T.State _ _ _ first.same second.same;
      adds = nothing_then g.T.State _ _ _ first.adds second.adds;
    }
