use Rattle.placed.proofs.Prelude.{◌∙◌, rules, ap, sym, refl, Ok, true, true≢false, pos, length, with_item, upload_number, place_in, LastChunk, place_number, place_of, shown, Staged, staged_of}
use Rattle.placed.proofs.RowCompleted.{none_read}
use Rattle.tables.specs.declared.rows.Completion.TheVariants.{Already, Differs}
use Rattle.placed.proofs.Completed.{is_kept, completes}
use Rattle.placed.proofs.Keeping.{file_itself}
use Rattle.placed.proofs.Lists.{one_at, set_at}
use Rattle.placed.proofs.Restaged.{counted, changes_counted}
use Rattle.placed.proofs.Ended.{not_written_by, completed, not_completed, completion_failed}
use Rattle.placed.proofs.placed.Placed.complete_content.Goals as goal
use Rattle.placed.proofs.Written.{writes_past}

pub returns-in_err-region : goal.returns-in_err-region
returns-in_err-region g c =
    let s = counted g.T.State g.D.Disk c.args.self.now c.args.self.now.disk (file_itself g.D.Disk _) c.saturating_add-self.result in
    let read = c.in_ok-chunk.ensures in
    let past = writes_past g.D.Disk (staged_of c.args.self.now) c.args.self.now.disk c.write_last.new.disk c.args.index c.index-content.result.now
    (search rules) (search rules) (search rules) c.write_last.ensures.contents (length c.args.last.now.bytes.items) c.write_last.ensures.others in
    changes_counted g.T.State g.D.Disk c.args.self.now c.args.self.now.disk (file_itself g.D.Disk _) c.saturating_add-self.result _ _ _ _ (
    not_written_by g.T.State g.D.Disk s c.chunk.new.self read.same read.adds past
    c.from_residual-in_err-region.result c.from_residual-in_err-region.ensures.0 _ _
    )

pub returns-in_err-place_of : goal.returns-in_err-place_of
returns-in_err-place_of g c =
    let s = counted g.T.State g.D.Disk c.args.self.now c.args.self.now.disk (file_itself g.D.Disk _) 0 in
    let read = c.in_ok-chunk.ensures in
    let past = writes_past g.D.Disk (staged_of c.args.self.now) c.args.self.now.disk c.write_last.new.disk c.args.index c.index-content.result.now
    (search rules) (search rules) (search rules) c.write_last.ensures.contents (length c.args.last.now.bytes.items) c.write_last.ensures.others in
    changes_counted g.T.State g.D.Disk c.args.self.now c.args.self.now.disk (file_itself g.D.Disk _) 0 _ _ _ _ (
    not_written_by g.T.State g.D.Disk s c.chunk.new.self read.same read.adds past
    c.from_residual-in_err-place_of.result c.from_residual-in_err-place_of.ensures.0 _ _
    )

pub returns-in-Ok-New : goal.returns-in-Ok-New
returns-in-Ok-New g c =
    let s = counted g.T.State g.D.Disk c.args.self.now c.args.self.now.disk (file_itself g.D.Disk _) 0 in
    let read = c.in_ok-chunk.ensures in
    let wrote = c.in_ok-region.ensures in
    let place : LastChunk = record { n = place_number; bytes = c.in_ok-place_of.field-0 } in
    let past = writes_past g.D.Disk (staged_of c.args.self.now) c.args.self.now.disk c.write_last.new.disk c.args.index c.index-content.result.now
    (search rules) (search rules) (search rules) wrote.contents (length c.args.last.now.bytes.items) wrote.others in
    let ends = completes g.D.Disk c.args.self.now.disk c.write_last.new.disk c.index-content.result.now
    (upload_number c.args.id) c.args.last.now place
    (search rules) refl (c.in_ok-place_of.ensures ∙ ap place_of wrote.region) (search rules) (search rules)
    wrote.number wrote.size wrote.content wrote.stop in
    changes_counted g.T.State g.D.Disk c.args.self.now c.args.self.now.disk (file_itself g.D.Disk _) 0 _ _ _ _ (
    completed g.T.State g.D.Disk s c.chunk.new.self read.same read.adds past c.complete_upload.new.self ends c.args.oid.now
    (pos c.args.size)
    (λ k h. none_read c.in_ok-chunk.field-0
    (place_in (upload_number c.args.id) (shown g.T.State c.args.self.now.rows)) c.if-is_some.ensures
    (read.answers k h).1)
    c.complete_upload.result c.complete_upload.ensures (c.in-Ok-New.is ∙ ap Ok c.in-Ok-New.field-0-is) c.forget.new.staged c.forget.ensures.items
    )

pub returns-in-Ok-Already : goal.returns-in-Ok-Already
returns-in-Ok-Already g c =
    let s = counted g.T.State g.D.Disk c.args.self.now c.args.self.now.disk (file_itself g.D.Disk _) 0 in
    let read = c.in_ok-chunk.ensures in
    let wrote = c.in_ok-region.ensures in
    let place : LastChunk = record { n = place_number; bytes = c.in_ok-place_of.field-0 } in
    let past = writes_past g.D.Disk (staged_of c.args.self.now) c.args.self.now.disk c.write_last.new.disk c.args.index c.index-content.result.now
    (search rules) (search rules) (search rules) wrote.contents (length c.args.last.now.bytes.items) wrote.others in
    let ends = completes g.D.Disk c.args.self.now.disk c.write_last.new.disk c.index-content.result.now
    (upload_number c.args.id) c.args.last.now place
    (search rules) refl (c.in_ok-place_of.ensures ∙ ap place_of wrote.region) (search rules) (search rules)
    wrote.number wrote.size wrote.content wrote.stop in
    changes_counted g.T.State g.D.Disk c.args.self.now c.args.self.now.disk (file_itself g.D.Disk _) 0 _ _ _ _ (
    not_completed g.T.State g.D.Disk s c.chunk.new.self read.same read.adds past c.complete_upload.new.self ends c.args.oid.now
    (pos c.args.size)
    (λ k h. none_read c.in_ok-chunk.field-0
    (place_in (upload_number c.args.id) (shown g.T.State c.args.self.now.rows)) c.if-is_some.ensures
    (read.answers k h).1)
    c.complete_upload.result c.complete_upload.ensures Already (λ same. true≢false (sym (ap is_kept same)))
    (c.in-Ok-Already.is ∙ ap Ok c.in-Ok-Already.field-0-is)
    )

pub returns-in-Ok-Differs : goal.returns-in-Ok-Differs
returns-in-Ok-Differs g c =
    let s = counted g.T.State g.D.Disk c.args.self.now c.args.self.now.disk (file_itself g.D.Disk _) 0 in
    let read = c.in_ok-chunk.ensures in
    let wrote = c.in_ok-region.ensures in
    let place : LastChunk = record { n = place_number; bytes = c.in_ok-place_of.field-0 } in
    let past = writes_past g.D.Disk (staged_of c.args.self.now) c.args.self.now.disk c.write_last.new.disk c.args.index c.index-content.result.now
    (search rules) (search rules) (search rules) wrote.contents (length c.args.last.now.bytes.items) wrote.others in
    let ends = completes g.D.Disk c.args.self.now.disk c.write_last.new.disk c.index-content.result.now
    (upload_number c.args.id) c.args.last.now place
    (search rules) refl (c.in_ok-place_of.ensures ∙ ap place_of wrote.region) (search rules) (search rules)
    wrote.number wrote.size wrote.content wrote.stop in
    changes_counted g.T.State g.D.Disk c.args.self.now c.args.self.now.disk (file_itself g.D.Disk _) 0 _ _ _ _ (
    not_completed g.T.State g.D.Disk s c.chunk.new.self read.same read.adds past c.complete_upload.new.self ends c.args.oid.now
    (pos c.args.size)
    (λ k h. none_read c.in_ok-chunk.field-0
    (place_in (upload_number c.args.id) (shown g.T.State c.args.self.now.rows)) c.if-is_some.ensures
    (read.answers k h).1)
    c.complete_upload.result c.complete_upload.ensures Differs (λ same. true≢false (sym (ap is_kept same)))
    (c.in-Ok-Differs.is ∙ ap Ok c.in-Ok-Differs.field-0-is)
    )

pub returns : goal.returns
returns g c =
    let s = counted g.T.State g.D.Disk c.args.self.now c.args.self.now.disk (file_itself g.D.Disk _) 0 in
    let sealed : Staged = record { id = c.index_mut.result.now.id; draft = c.index_mut.result.now.draft; is_sealed = true } in
    let read = c.in_ok-chunk.ensures in
    let wrote = c.in_ok-region.ensures in
    let place : LastChunk = record { n = place_number; bytes = c.in_ok-place_of.field-0 } in
    let past = writes_past g.D.Disk (staged_of c.args.self.now) c.args.self.now.disk c.write_last.new.disk c.args.index c.index-content.result.now
    (search rules) (search rules) (search rules) wrote.contents (length c.args.last.now.bytes.items) wrote.others in
    let ends = completes g.D.Disk c.args.self.now.disk c.write_last.new.disk c.index-content.result.now
    (upload_number c.args.id) c.args.last.now place
    (search rules) refl (c.in_ok-place_of.ensures ∙ ap place_of wrote.region) (search rules) (search rules)
    wrote.number wrote.size wrote.content wrote.stop in
    changes_counted g.T.State g.D.Disk c.args.self.now c.args.self.now.disk (file_itself g.D.Disk _) 0 _ _ _ _ (
    completion_failed g.T.State g.D.Disk s c.chunk.new.self read.same read.adds past c.complete_upload.new.self ends c.args.oid.now
    (pos c.args.size)
    (λ k h. none_read c.in_ok-chunk.field-0
    (place_in (upload_number c.args.id) (shown g.T.State c.args.self.now.rows)) c.if-is_some.ensures
    (read.answers k h).1)
    c.complete_upload.result c.complete_upload.ensures c.in-Err.fault c.in-Err.is
    sealed (search rules)
    (ap (λ (x : Staged). x.draft)
    (one_at c.args.self.now.staged.items c.args.index c.index_mut.result.now c.index-content.result.now (search rules) (search rules) (search rules)))
    refl (with_item c.args.self.now.staged c.args.index sealed)
    (set_at c.args.self.now.staged.items c.args.index sealed (search rules))
    )
