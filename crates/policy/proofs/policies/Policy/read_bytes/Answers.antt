use Rattle.policy.proofs.WholeText.{fault_in-not_utf8}
use Rattle.policy.proofs.policies.Policy.read_bytes.Goals as goal

pub returns-in-Err-clause-refused : goal.returns-in-Err-clause-refused
returns-in-Err-clause-refused c =
    rw (c.into-in-Err.ensures, c.of_file-in-Err.ensures)
    (fault_in-not_utf8 c.args.source.now c.if-source-gt-LONGEST_FILE.false c.in-Err.ensures.cases.0)
