use Rattle.operator.proofs.Prelude.{List, ℕ, subst, reads_weaker, on_ok_weaker, text_of}
use Rattle.model.specs.Policy as model
use Rattle.operator.specs.Usage.{ListsUsage}
use Rattle.operator.proofs.Printed.{none_on}
use Rattle.operator.proofs.listing_usage.list_usage.Goals as goal

pub returns-in_err-usage_lines-clause-reads : goal.returns-in_err-usage_lines-clause-reads
returns-in_err-usage_lines-clause-reads g c =
    reads_weaker g.S.State c.args.store.now c.usage_lines.new.store _ _ (λ world laws p. none_on _ _ c.from_residual.result c.from_residual.ensures.1)
    c.usage_lines.ensures.reads

pub returns-clause-reads : goal.returns-clause-reads
returns-clause-reads g c =
    reads_weaker g.S.State c.args.store.now c.usage_lines.new.store _ _
    (λ world laws lists.
    on_ok_weaker c.write.result
    (λ taken. (
      text_of c.in_ok-usage_lines.field-0,
      subst (λ (repos : List model.Repo). ListsUsage g.S.State world c.args.store.now c.usage_lines.new.store c.args.now repos (text_of c.in_ok-usage_lines.field-0)) c.repos.ensures lists,
      taken,
    ))
    c.write.ensures.text) c.in_ok-usage_lines.ensures.reads
