use Rattle.tables.proofs.Prelude.{arith, refl, show_lock}
use Rattle.tables.proofs.Ranges.{is_read, ref_text_is, path_text_is, user_text_is}
use Rattle.tables.proofs.rows.lock_from.Goals as goal

pub returns-in_err-get-2-clause-refused : goal.returns-in_err-get-2-clause-refused
returns-in_err-get-2-clause-refused c l all range =
    is_read c.args.row.now (show_lock l) 1 l.ref_name c.in_err-get-2.field-0.0 c.from_residual-in_err-get-2.result all (omega arith) refl (ref_text_is l.ref_name range.ref_name) c.in_err-get-2.ensures.kind c.from_residual-in_err-get-2.ensures.1

pub returns-in_err-get-3-clause-refused : goal.returns-in_err-get-3-clause-refused
returns-in_err-get-3-clause-refused c l all range =
    is_read c.args.row.now (show_lock l) 2 l.path c.in_err-get-3.field-0.0 c.from_residual-in_err-get-3.result all (omega arith) refl (path_text_is l.path range.path) c.in_err-get-3.ensures.kind c.from_residual-in_err-get-3.ensures.1

pub returns-in_err-get-4-clause-refused : goal.returns-in_err-get-4-clause-refused
returns-in_err-get-4-clause-refused c l all range =
    is_read c.args.row.now (show_lock l) 3 l.owner c.in_err-get-4.field-0.0 c.from_residual-in_err-get-4.result all (omega arith) refl (user_text_is l.owner range.owner) c.in_err-get-4.ensures.kind c.from_residual-in_err-get-4.ensures.1
