use Rattle.tables.proofs.Prelude.{option_map, ap, subst, state, repo_text, tables_in, with_upload, upload_number, asked_upload, IsLastIn}
use Rattle.tables.specs.Staging.{after_begin}
use Rattle.tables.proofs.Calls.{same_steps}
use Rattle.tables.proofs.Replacing.{none_last}
use Rattle.tables.proofs.beginning.begin_into.Goals as goal

pub returns-in_ok-upload_into-in-None-clause-ok : goal.returns-in_ok-upload_into-in-None-clause-ok
unfolding after_begin
returns-in_ok-upload_into-in-None-clause-ok g c last clean inside ready =
    let repo = repo_text c.args.upload.now.repo.now in
    let old = state g.S.Store c.args.tx.now.conn.now in
    let upload = asked_upload c.args.upload.now c.in_ok-upload_into-in-None.field-0.number in
    let none = subst (λ l. IsLastIn (option_map upload_number l) repo old) c.in-None.is last in
    let step = c.in_ok-upload_into-in-None.ensures.ok clean inside ready in
    same_steps (with_upload upload) (after_begin upload) old (state g.S.Store c.upload_into.new.tx.conn.now) (ap (with_upload upload) (none_last repo (tables_in old) (none step.was_open))) step
