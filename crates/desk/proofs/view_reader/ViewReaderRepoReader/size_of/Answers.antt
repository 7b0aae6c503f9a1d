use Rattle.desk.proofs.Prelude.{◌∙◌, None, Some, ap, find, bytes_eq}
use Rattle.desk.proofs.Foreseen.{size_shown}
use Rattle.desk.proofs.view_reader.ViewReaderRepoReader.size_of.Goals as goal

pub returns-in-Some-clause-size : goal.returns-in-Some-clause-size
returns-in-Some-clause-size c honest state shown =
    size_shown c.args.self.now.view.now state c.args.name.now (Some c.in-Some.object) shown.1 (c.in-Some.ensures ∙ ap (find (λ o. bytes_eq o.name c.args.name.now)) c.as_slice.ensures.value)

pub returns-in-None-clause-size : goal.returns-in-None-clause-size
returns-in-None-clause-size c honest state shown =
    size_shown c.args.self.now.view.now state c.args.name.now None shown.1 (c.in-None.ensures ∙ ap (find (λ o. bytes_eq o.name c.args.name.now)) c.as_slice.ensures.value)
