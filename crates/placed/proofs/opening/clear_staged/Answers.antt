-- One upload after another is removed.
use Rattle.std.proofs.Common.{map, subst, ◌∙◌}
use Rattle.std.proofs.lemmas.List.{get_or_default, take_all}
use Rattle.placed.proofs.Cleared.{Removes, clears_none, clears_then, leaves_all, removes_all, removes_next, removes_none, removes_not}
use Rattle.tables.specs.Staging.{upload_number}
use Rattle.placed.proofs.opening.clear_staged.Goals as goal

pub loop-id-init : goal.loop-id-init
loop-id-init g c = removes_none g.T.State c.chunked_uploads.new.rows

pub loop-id-preserved : goal.loop-id-preserved
loop-id-preserved g c =
    removes_next g.T.State c.deref-id-items.result.now c.loop-id.id-index _
    c.chunked_uploads.new.rows c.loop-id.rows c.remove_upload.new.self c.loop-id-test.true
    (get_or_default c.deref-id-items.result.now c.loop-id.id-index _ _ c.loop-id-test.true)
    c.loop-id.invariant c.in_ok-remove_upload.ensures.made

pub returns-in_err-chunked-clause-some : goal.returns-in_err-chunked-clause-some
returns-in_err-chunked-clause-some g c = clears_none g.T.State _ _ c.in_err-chunked.ensures.same c.in_err-chunked.ensures.adds

pub returns-in_err-remove_upload-clause-some : goal.returns-in_err-remove_upload-clause-some
returns-in_err-remove_upload-clause-some g c =
    clears_then g.T.State _ c.chunked_uploads.new.rows _
    (clears_none g.T.State _ _ c.in_ok-chunked.ensures.same c.in_ok-chunked.ensures.adds)
    (removes_not g.T.State _ _ _ _ _ c.loop-id.invariant c.in_err-remove_upload.ensures.failed)

pub returns-clause-all : goal.returns-clause-all
returns-clause-all g c =
    let all = take_all c.loop-id.id-index c.deref-id-items.result.now c.loop-id-test.false in
    removes_all g.T.State c.in_ok-chunked.chunked c.args.rows.now c.chunked_uploads.new.rows c.loop-id.rows c.in_ok-chunked.ensures
    (subst (λ l. Removes g.T.State (map upload_number l) c.chunked_uploads.new.rows c.loop-id.rows)
    (all ∙ c.deref-id-items.ensures.value) c.loop-id.invariant)

pub returns-clause-left : goal.returns-clause-left
returns-clause-left g c =
    let all = take_all c.loop-id.id-index c.deref-id-items.result.now c.loop-id-test.false in
    leaves_all g.T.State c.in_ok-chunked.chunked c.args.rows.now c.chunked_uploads.new.rows c.loop-id.rows c.in_ok-chunked.ensures
    (subst (λ l. Removes g.T.State (map upload_number l) c.chunked_uploads.new.rows c.loop-id.rows)
    (all ∙ c.deref-id-items.ensures.value) c.loop-id.invariant)

pub returns-clause-some : goal.returns-clause-some
returns-clause-some g c =
    clears_then g.T.State _ c.chunked_uploads.new.rows _
    (clears_none g.T.State _ _ c.in_ok-chunked.ensures.same c.in_ok-chunked.ensures.adds) c.loop-id.invariant.some
