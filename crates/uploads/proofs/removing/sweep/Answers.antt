use Rattle.uploads.proofs.Prelude.{◌≤◌, ◌+◌, ◌∙◌, ◌∷◌, drop, length, List, ap, subst, sym, rules, err_from_is_err_and, UploadRow, From}
use Rattle.std.proofs.lemmas.List.{drop_more, drop_all}
use Rattle.uploads.proofs.Swept.{IsSwept, swept_none, unread, swept_cut, cut_fails, swept_more, sweep_fails, swept_all}
use Rattle.uploads.proofs.removing.sweep.Goals as goal

pub returns-in_err-staged : goal.returns-in_err-staged
returns-in_err-staged g c =
    let p = err_from_is_err_and c.from_residual.result c.from_residual.ensures.1 in
    rw p.1 (unread g.S.State c.args.store.now c.staged_uploads.new.self p.0 c.in_err-staged.ensures.same c.in_err-staged.ensures.adds)

pub loop-upload-init : goal.loop-upload-init
loop-upload-init g c =
    let old = c.args.store.now in
    let now = c.staged_uploads.new.self in
    subst (λ (rows : List UploadRow). From g.S.State old now (λ world. IsSwept g.S.State world old now (length rows) rows)) (sym c.as_slice-upload-items.ensures.value)
    (swept_none g.S.State old now c.in_ok-staged.staged.items c.in_ok-staged.ensures.same c.in_ok-staged.ensures.adds c.in_ok-staged.ensures.answers)

pub returns-in_err-shorten : goal.returns-in_err-shorten
returns-in_err-shorten g c =
    let items = c.as_slice-upload-items.result.now in
    let p = err_from_is_err_and c.from_residual-in_err-shorten.result c.from_residual-in_err-shorten.ensures.1 in
    rw p.1 (cut_fails g.S.State c.args.store.now c.loop-upload.store c.shorten.new.store (length items) (drop c.loop-upload.upload-index items) p.0 c.loop-upload.invariant c.in_err-shorten.ensures)

pub returns-in_err-remove_upload : goal.returns-in_err-remove_upload
returns-in_err-remove_upload g c =
    let old = c.args.store.now in
    let now = c.shorten.new.store in
    let items = c.as_slice-upload-items.result.now in
    let p = err_from_is_err_and c.from_residual-in_err-remove_upload.result c.from_residual-in_err-remove_upload.ensures.1 in
    let cut = swept_cut g.S.State old c.loop-upload.store now (length items) (drop c.loop-upload.upload-index items) c.loop-upload.invariant c.in_ok-shorten.ensures in
    rw p.1 (sweep_fails g.S.State old now c.remove_upload.new.self (length items) c.upload-item.result (drop (c.loop-upload.upload-index + 1) items) p.0
    (subst (λ (left : List UploadRow). From g.S.State old now (λ world. IsSwept g.S.State world old now (length items) left)) (drop_more items c.loop-upload.upload-index c.upload-item.result c.loop-upload-test.true ∙ ap (λ (row : UploadRow). row ∷ drop (c.loop-upload.upload-index + 1) items) (sym c.upload-item.is)) cut)
    c.in_err-remove_upload.ensures.failed)

pub loop-upload-preserved : goal.loop-upload-preserved
loop-upload-preserved g c =
    let old = c.args.store.now in
    let now = c.shorten.new.store in
    let items = c.as_slice-upload-items.result.now in
    let cut = swept_cut g.S.State old c.loop-upload.store now (length items) (drop c.loop-upload.upload-index items) c.loop-upload.invariant c.in_ok-shorten.ensures in
    swept_more g.S.State old now c.remove_upload.new.self (length items) c.upload-item.result (drop (c.loop-upload.upload-index + 1) items)
    (subst (λ (left : List UploadRow). From g.S.State old now (λ world. IsSwept g.S.State world old now (length items) left)) (drop_more items c.loop-upload.upload-index c.upload-item.result c.loop-upload-test.true ∙ ap (λ (row : UploadRow). row ∷ drop (c.loop-upload.upload-index + 1) items) (sym c.upload-item.is)) cut)
    c.in_ok-remove_upload.ensures.made

pub returns : goal.returns
returns g c =
    let old = c.args.store.now in
    let now = c.loop-upload.store in
    let items = c.as_slice-upload-items.result.now in
    let past : length items ≤ c.loop-upload.upload-index = search rules in
    swept_all g.S.State old now (length items) _ (search rules)
    (subst (λ (left : List UploadRow). From g.S.State old now (λ world. IsSwept g.S.State world old now (length items) left)) (drop_all c.loop-upload.upload-index items past) c.loop-upload.invariant)
