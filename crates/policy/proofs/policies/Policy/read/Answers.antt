use Rattle.policy.proofs.Prelude.{table_view, policy_view}
use Rattle.policy.proofs.WholeText.{fault_in-document, Spells-from, refused-from}
use Rattle.policy.proofs.policies.Policy.read.Goals as goal

pub returns-in-Ok-clause-spelled : goal.returns-in-Ok-clause-spelled
returns-in-Ok-clause-spelled c =
    let same = fault_in-document c.args.source.now (table_view c.in-Ok.table) c.if-source-gt-LONGEST_FILE.false c.utf8.source c.in-Ok.ensures.ok in
    Spells-from policy_view _ _ _ same c.in-Ok.ensures.ok c.read_document.ensures

pub returns-in-Ok-clause-refused : goal.returns-in-Ok-clause-refused
returns-in-Ok-clause-refused c =
    let same = fault_in-document c.args.source.now (table_view c.in-Ok.table) c.if-source-gt-LONGEST_FILE.false c.utf8.source c.in-Ok.ensures.ok in
    refused-from _ _ _ _ same c.read_document.ensures
