use Rattle.operator.proofs.Prelude.{◌≡◌, ◌∙◌, ◌++◌, append_assoc, refl, subst, Appends, OnOk, line, codes}
use Rattle.std.proofs.lemmas.Fmt.{contents_after_writes}
use Rattle.arrayvec.specs.declared.array_string.ArrayString.{ArrayString}
use Rattle.operator.proofs.retiring.print_line.Goals as goal

pub returns-in-Ok-clause-text : goal.returns-in-Ok-clause-text
returns-in-Ok-clause-text g c =
    let text : c.writeln.new.self.bytes ≡ line (c.args.became.now ++ codes " " ++ c.args.oid.now) =
    contents_after_writes _ (λ (s : ArrayString 96). s.bytes) (λ w bs v took. took) _ _ _ c.in-Ok.ensures.writes ∙ rw c.new-line.ensures (simp append_assoc refl) in
    subst (λ bytes. OnOk c.print.result (Appends (g.K.Sink.taken c.args.output.now) (g.K.Sink.taken c.print.new.output) bytes)) (c.as_bytes.ensures.value ∙ c.deref.ensures.0 ∙ text) c.print.ensures.text
