use Rattle.tables.proofs.Prelude.{arith, refl, show_token}
use Rattle.tables.proofs.Ranges.{is_read, user_text_is, repo_text_is}
use Rattle.tables.proofs.rows.token_from.Goals as goal

pub returns-in_err-get-clause-refused : goal.returns-in_err-get-clause-refused
returns-in_err-get-clause-refused c t all range =
    is_read c.args.row.now (show_token t) 1 t.user c.in_err-get.field-0.0 c.from_residual-in_err-get.result all (omega arith) refl (user_text_is t.user range.user) c.in_err-get.ensures.kind c.from_residual-in_err-get.ensures.1

pub returns-in_err-get-2-clause-refused : goal.returns-in_err-get-2-clause-refused
returns-in_err-get-2-clause-refused c t all range =
    is_read c.args.row.now (show_token t) 2 t.repo c.in_err-get-2.field-0.0 c.from_residual-in_err-get-2.result all (omega arith) refl (repo_text_is t.repo range.repo) c.in_err-get-2.ensures.kind c.from_residual-in_err-get-2.ensures.1
