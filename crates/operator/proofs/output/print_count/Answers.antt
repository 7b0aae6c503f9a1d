use Rattle.operator.proofs.Prelude.{◌≡◌, ◌∙◌, append_assoc, refl, subst, Appends, OnOk, count_line, line}
use Rattle.std.proofs.lemmas.Fmt.{contents_after_writes}
use Rattle.arrayvec.specs.declared.array_string.ArrayString.{ArrayString}
use Rattle.operator.proofs.output.print_count.Goals as goal

pub returns-in-Ok-clause-text : goal.returns-in-Ok-clause-text
returns-in-Ok-clause-text g c =
    let text : c.writeln.new.self.bytes ≡ line (count_line c.args.verb.now c.args.count c.args.noun.now) =
    contents_after_writes _ (λ (s : ArrayString 64). s.bytes) (λ w bs v took. took) _ _ _ c.in-Ok.ensures.writes ∙ rw c.new-line.ensures (simp append_assoc refl) in
    subst (λ bytes. OnOk c.print.result (Appends (g.K.Sink.taken c.args.output.now) (g.K.Sink.taken c.print.new.output) bytes)) (c.as_bytes.ensures.value ∙ c.deref.ensures.0 ∙ text) c.print.ensures.text
