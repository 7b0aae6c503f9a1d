use Rattle.tokens.proofs.Prelude.{◌≤◌, Ok, Err, rules, last_moment}
use Rattle.std.proofs.lemmas.Result.{err_from_is_err_and}
use Rattle.tokens.proofs.Kept.{prunes_by}
use Rattle.tokens.proofs.pruning.prune.Goals as goal

pub returns-in_err-removed : goal.returns-in_err-removed
returns-in_err-removed g c =
    let in_range : c.args.now ≤ last_moment = search rules in
    let e = c.in_err-removed.ensures in
    let p = err_from_is_err_and c.from_residual.result c.from_residual.ensures.1 in
    record {
      honest = e.failed.moves.was_honest;
      each = λ honest world h. rw p.1 (prunes_by g.S.State c.args.store.now c.remove_expired.new.self world h honest c.args.now (Err p.0) in_range tt tt e.failed);
    }

pub returns : goal.returns
returns g c =
    let in_range : c.args.now ≤ last_moment = search rules in
    let e = c.in_ok-removed.ensures in
    record {
      honest = e.made.moves.was_honest;
      each = λ honest world h.
          prunes_by g.S.State c.args.store.now c.remove_expired.new.self world h honest c.args.now (Ok c.in_ok-removed.removed) in_range (e.answers honest h.ready) e.made tt;
    }
