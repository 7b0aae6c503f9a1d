use Rattle.desk.proofs.Prelude.{◌∙◌, ap, find, bytes_eq}
use Rattle.desk.proofs.Foreseen.{gone_shown}
use Rattle.desk.proofs.view_reader.ViewReaderRepoReader.is_gone.Goals as goal

pub returns-clause-gone : goal.returns-clause-gone
returns-clause-gone c honest state shown =
    c.is_some.ensures
    ∙ gone_shown c.args.self.now.view.now state c.args.name.now c.among.result shown.1 (c.among.ensures ∙ ap (find (λ other. bytes_eq other c.args.name.now)) c.as_slice.ensures.value)
