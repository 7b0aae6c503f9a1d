use Rattle.operator.proofs.Prelude.{◌∙◌, ap, reads_weaker, on_ok_weaker, text_of}
use Rattle.operator.specs.Printed.{token_lines}
use Rattle.operator.proofs.Printed.{none_on}
use Rattle.operator.proofs.listing_tokens.list_tokens.Goals as goal

pub returns-in_err-rows-clause-reads : goal.returns-in_err-rows-clause-reads
returns-in_err-rows-clause-reads g c =
    reads_weaker g.S.State c.args.store.now c.listed_tokens.new.store _ _ (λ world laws p. none_on _ _ c.from_residual.result c.from_residual.ensures.1) c.listed_tokens.ensures.valid

pub returns-in_err-lines_of-clause-reads : goal.returns-in_err-lines_of-clause-reads
returns-in_err-lines_of-clause-reads g c =
    reads_weaker g.S.State c.args.store.now c.listed_tokens.new.store _ _ (λ world laws p. none_on _ _ c.from_residual-in_err-lines_of.result c.from_residual-in_err-lines_of.ensures.1)
    c.listed_tokens.ensures.valid

pub returns-clause-reads : goal.returns-clause-reads
returns-clause-reads g c =
    reads_weaker g.S.State c.args.store.now c.listed_tokens.new.store _ _
    (λ world laws valid.
    on_ok_weaker c.write.result
    (λ taken. (
      text_of c.in_ok-lines_of.field-0,
      (c.in_ok-rows.rows.items, valid, c.in_ok-rows.ensures.sorted, c.in_ok-lines_of.ensures ∙ ap (token_lines c.args.destination) c.as_slice.ensures.value),
      taken,
    ))
    c.write.ensures.text) c.in_ok-rows.ensures.valid
