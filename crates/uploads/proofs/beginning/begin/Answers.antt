use Rattle.uploads.proofs.Prelude.{rules, ◌≤◌, err_from_is_err_and, largest_object}
use Rattle.uploads.proofs.Begun.{begun_from, begun_then, begun_unretired, kept_then, read_keeps}
use Rattle.uploads.proofs.beginning.begin.Goals as goal

pub returns-in_err-is_retired : goal.returns-in_err-is_retired
returns-in_err-is_retired g c =
    let p = err_from_is_err_and c.from_residual.result c.from_residual.ensures.1 in
    rw p.1 (read_keeps g.S.State c.args.store.now c.is_retired.new.store c.in_err-is_retired.ensures)

pub returns-then-branch : goal.returns-then-branch
returns-then-branch g c = read_keeps g.S.State c.args.store.now c.is_retired.new.store c.in_ok-is_retired.ensures

pub returns-in_err-shorten_staged : goal.returns-in_err-shorten_staged
returns-in_err-shorten_staged g c =
    let p = err_from_is_err_and c.from_residual-in_err-shorten_staged.result c.from_residual-in_err-shorten_staged.ensures.1 in
    rw p.1 (kept_then g.S.State c.args.store.now c.is_retired.new.store c.shorten_staged.new.store (read_keeps g.S.State c.args.store.now c.is_retired.new.store c.in_ok-is_retired.ensures) c.in_err-shorten_staged.ensures)

pub returns : goal.returns
returns g c =
    let in_range : c.args.size ≤ largest_object = search rules in
    let old = c.args.store.now in
    let asked = c.is_retired.new.store in
    let shortened = c.shorten_staged.new.store in
    let new = c.begin_upload.new.self in
    begun_unretired g.S.State old asked new c.args.repo.now c.args.oid.now c.args.size _ c.begin_upload.result c.if-branch.false c.in_ok-is_retired.ensures
    (begun_then g.S.State asked shortened new c.args.repo.now c.args.oid.now c.args.size c.begin_upload.result c.in_ok-shorten_staged.ensures
    (begun_from g.S.State shortened new _ in_range c.begin_upload.result c.begin_upload.ensures))
