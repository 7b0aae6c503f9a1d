use Rattle.std.proofs.Common.{◌∙◌, ◌++◌, [], ◌∷◌, inl, inr, subst, sym}
use Rattle.std.proofs.lemmas.List.{append-nil}
use Rattle.server.specs.Commands.{IsSilent}
use Rattle.server.specs.Jobs.{idles, seen_in}
use Rattle.server.proofs.Jobs.{calls_append, one_idle, seen_append, sent_or_not}
use Rattle.server.proofs.operators.refuse_version.Goals as goal

pub returns : goal.returns
returns g c =
    let sent = sent_or_not g.M.Machine c.args.machine.now c.send.new.self c.send.result c.args.stream.now c.refusal_bytes.result.now c.send.ensures.ok c.send.ensures.err in (
      sent.0 ++ idles ∷ [],
      calls_append g.M.Machine c.args.machine.now c.send.new.self c.drop_rest.new.self sent.0 (idles ∷ []) sent.1 (one_idle g.M.Machine c.send.new.self c.drop_rest.new.self c.drop_rest.ensures),
      subst IsSilent (sym (seen_append sent.0 (idles ∷ []) ∙ append-nil (seen_in sent.0)))
          (elim sent.2 [
            | inl is ↦ subst IsSilent (sym is) c.refusal_bytes.ensures
            | inr none ↦ subst IsSilent (sym none) tt
          ]),
    )
