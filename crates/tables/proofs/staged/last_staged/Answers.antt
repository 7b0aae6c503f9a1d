use Rattle.tables.proofs.Prelude.{◌∙◌, None, Some, Option, Ok, ap, sym, subst, repo_text, UploadId, UploadRow, same_bytes, UploadFields, Seeks}
use Rattle.tables.proofs.Seeking.{IsRow, seeks_none, seeks_nothing, seeks_one}
use Rattle.tables.proofs.staged.last_staged.Goals as goal

pub returns-in_default : goal.returns-in_default
returns-in_default g c =
    let a = c.args.conn.now in
    let repo = repo_text c.args.repo.now in
    subst (λ (l : Option UploadId). Seeks g.S.Store a a l repo (Ok None)) (sym c.in_default.is) (seeks_none g.S.Store repo a)

pub returns-in_default-2 : goal.returns-in_default-2
returns-in_default-2 g c =
    let a = c.args.conn.now in
    let b = c.staged_row.new.conn in
    let repo = repo_text c.args.repo.now in
    let row = subst (λ (o : Option UploadRow). IsRow g.S.Store repo a b c.in-Some.last (Ok o)) c.in_default-2.is c.in_ok-upload.ensures in
    subst (λ (l : Option UploadId). Seeks g.S.Store a b l repo (Ok None)) (sym c.in-Some.is) (seeks_nothing g.S.Store repo a b c.in-Some.last row)

pub returns : goal.returns
returns g c =
    let a = c.args.conn.now in
    let b = c.staged_row.new.conn in
    let repo = repo_text c.args.repo.now in
    let upload = c.in-Some-2.upload in
    let row = subst (λ (o : Option UploadRow). IsRow g.S.Store repo a b c.in-Some.last (Ok o)) c.in-Some-2.is c.in_ok-upload.ensures in
    let named = sym c.is_same.ensures ∙ c.if-not-is_same.false in
    subst (λ (l : Option UploadId). Seeks g.S.Store a b l repo (Ok (Some upload))) (sym c.in-Some.is)
    (seeks_one g.S.Store repo a b c.in-Some.last upload (λ f is. ap (λ (h : UploadFields). same_bytes h.repo repo) is ∙ named) row)
